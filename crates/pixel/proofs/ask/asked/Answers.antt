-- A table and a scan that questions 11, 12, 17 and 20 let through, and the place of the first sample that question 18 is answered no of.
use Rattle.std.proofs.Common.{◌≡◌, ℕ, ◌-◌, ◌^◌, Bool, leb, [], ◌∷◌, length, sym, ap, ◌∙◌, arith, rules, inl, inr}
use Rattle.std.proofs.Math.Nat.{eq-or-lt_of_le}
use Rattle.std.proofs.Math.Pow.{pow_pos, pow_mono}
use borrow.Author.Tests.{le-leb, lt-leb}
use Rattle.arith.specs.All.{all}
use Rattle.arith.specs.First.{first_not}
use Rattle.arith.proofs.Bools.{true_of}
use Rattle.arith.proofs.Firsts.{first_most, first_below, first_beyond}
use Rattle.layout.specs.declared.asking.Question.TheVariants.{Samples}
use Rattle.layout.specs.Answers.{said, verdict, asks_each}
use Rattle.layout.specs.Questions.{asked_at}
use Rattle.limits.proofs.Asked.{asked_yes}
use Rattle.limits.proofs.Granted.{granted}
use Rattle.rule.specs.Questions.{sample_good}
use Rattle.rule.proofs.Asked.{width_bounds, height_bounds}
use Rattle.pixel.specs.Call.{pixel_asks}
use Rattle.pixel.proofs.ask.asked.Goals as goal

-- question 18, by the lowest place that it is answered no of
each : (n : ℕ) (test : ℕ → Bool) → said (asked_at Samples (leb n (first_not n test)) (first_not n test)) ≡ verdict (asks_each 18 n test ∷ [])
each n test =
    elim (eq-or-lt_of_le (first_most n test)) [
      | inl e ↦ rw (le-leb n (first_not n test) (omega (arith, e)), true_of (all n test) (first_beyond n test (omega (arith, e))))
      | inr l ↦ rw (lt-leb n (first_not n test) l, first_below n test l)
    ]

pub height_good-requires : goal.height_good-requires
height_good-requires c = (width_bounds (sym c.width_good.ensures ∙ asked_yes _ _ _ (sym c.unless-2.ensures ∙ c.in_ok-unless-2.was))).0

pub place_good-requires : goal.place_good-requires
place_good-requires c = (width_bounds (sym c.width_good.ensures ∙ asked_yes _ _ _ (sym c.unless-2.ensures ∙ c.in_ok-unless-2.was))).0

pub overflow_sub-power : goal.overflow_sub-power
overflow_sub-power c =
    let t = c.args.t in
    let b = (granted t (sym c.accepted.ensures ∙ asked_yes _ _ _ (sym c.unless.ensures ∙ c.in_ok-unless.was))).bits_most in
    let e = c.power.ensures.value (omega arith) in
    let p = pow_pos t.b in
    omega arith

pub overflow_cast-power : goal.overflow_cast-power
overflow_cast-power c =
    let b = (granted c.args.t (sym c.accepted.ensures ∙ asked_yes _ _ _ (sym c.unless.ensures ∙ c.in_ok-unless.was))).bits_most in
    let e = c.power.ensures.value (omega arith) in
    let p = pow_mono b in
    search (rules, e, p)

pub overflow_cast-place : goal.overflow_cast-place
overflow_cast-place c =
    let w = sym c.width_good.ensures ∙ asked_yes _ _ _ (sym c.unless-2.ensures ∙ c.in_ok-unless-2.was) in
    let b = (height_bounds w (sym c.height_good.ensures ∙ asked_yes _ _ _ (sym c.unless-3.ensures ∙ c.in_ok-unless-3.was))).few in
    let m = first_most (length c.args.samples.now) (sample_good (c.power.result - 1) c.args.samples.now) in
    let e = c.first_above-place.ensures in
    search (rules, b, m, e)

pub returns : goal.returns
unfolding pixel_asks
returns c =
    let t = c.args.t in
    let a = sym c.accepted.ensures ∙ asked_yes _ _ _ (sym c.unless.ensures ∙ c.in_ok-unless.was) in
    let w = sym c.width_good.ensures ∙ asked_yes _ _ _ (sym c.unless-2.ensures ∙ c.in_ok-unless-2.was) in
    let h = sym c.height_good.ensures ∙ asked_yes _ _ _ (sym c.unless-3.ensures ∙ c.in_ok-unless-3.was) in
    let p = sym c.place_good.ensures ∙ asked_yes _ _ _ (sym c.unless-4.ensures ∙ c.in_ok-unless-4.was) in
    let b = (granted t a).bits_most in
    let e = c.power.ensures.value (omega arith) in
    let f = rw e at c.first_above-place.ensures in
    let n = length c.args.samples.now in
    rw (a, w, h, p)
    (ap said (c.unless_at.ensures ∙ ap (λ x. asked_at Samples (leb n x) x) f) ∙ each n (sample_good (2 ^ t.b - 1) c.args.samples.now))
