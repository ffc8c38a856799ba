-- Questions 3 and 4 bound the drops, so that the powers are what `dropped` takes; its sum is the loss figure.
use Rattle.std.proofs.Common.{◌≡◌, ◌≤◌, ◌^◌, ℕ, [], ◌∷◌, pos, sym, ap, ◌∙◌, subst, arith}
use Rattle.std.proofs.Math.Pow.{pow_pos, pow_mono, pow-add}
use Rattle.layout.specs.Answers.{accepted}
use Rattle.layout.specs.Measure.{loss_figure}
use Rattle.limits.specs.Figures.{loss_of}
use Rattle.limits.proofs.Asked.{asked_yes, drops_bounds}
use Rattle.limits.proofs.figure.loss.Goals as goal

-- a power of two that is at most 2^m
power_bounds : {q p : ℕ} (m : ℕ) → q ≤ m → p ≡ 2 ^ q → (1 ≤ p) × (p ≤ 2 ^ m)
power_bounds {q} m h e = (subst (λ x. 1 ≤ x) (sym e) (pow_pos q), subst (λ x. x ≤ 2 ^ m) (sym e) (pow_mono h))

pub dropped-requires-clause-le_p1 : goal.dropped-requires-clause-le_p1
dropped-requires-clause-le_p1 c =
    let b = sym c.bits_good.ensures ∙ asked_yes _ _ _ (sym c.unless.ensures ∙ c.in_ok-unless.was) in
    let e = sym c.drops_good.ensures ∙ asked_yes _ _ _ (sym c.unless-2.ensures ∙ c.in_ok-unless-2.was) in
    let d = drops_bounds _ _ _ _ b e in
    let x = power_bounds 11 d.0 (c.power.ensures.value (omega arith)) in
    let y = power_bounds 8 d.1 (c.power-2.ensures.value (omega arith)) in
    let z = power_bounds 8 d.2 (c.power-3.ensures.value (omega arith)) in
    (x.0, x.1, y.0, y.1, z.0, z.1)

pub returns : goal.returns
unfolding loss_of loss_figure
returns c =
    let b = sym c.bits_good.ensures ∙ asked_yes _ _ _ (sym c.unless.ensures ∙ c.in_ok-unless.was) in
    let e = sym c.drops_good.ensures ∙ asked_yes _ _ _ (sym c.unless-2.ensures ∙ c.in_ok-unless-2.was) in
    let d = drops_bounds _ _ _ _ b e in
    let t = c.args.t in
    rw (
      b,
      e,
      pow-add 2 t.q1 t.q2,
      ← (c.power.ensures.value (omega arith)),
      ← (c.power-2.ensures.value (omega arith)),
      ← (c.power-3.ensures.value (omega arith)),
      ← c.columns.ensures.value,
      ← c.rows.ensures.value,
      ← c.from-n.ensures,
      ← c.from.ensures,
    )
    (ap (λ n. accepted (pos n ∷ [])) c.dropped.ensures)
