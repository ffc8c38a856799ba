-- Every sample passed is dead, so that the mended sample is that of the place reached.
use Rattle.std.proofs.Common.{ℕ, ◌-◌, ◌≤◌, arith, ◌≡◌, sym, ap, ◌∙◌, List, get_or}
use Rattle.rule.specs.Mended.{mended_at}
use Rattle.rule.proofs.Mended.{mended_live, mended_back, mended_first}
use Rattle.pixel.proofs.sums.live.Invariants.{row}
use Rattle.pixel.proofs.sums.live.Goals as goal

-- sample k of the scan is sample k - base of the row
in_row : (xs : List ℕ) (base k : ℕ) → base ≤ k → row xs base (k - base) ≡ get_or xs k 0
in_row xs base k h = ap (λ i. get_or xs i 0) (omega arith)

pub returns-then-x : goal.returns-then-x
returns-then-x c = let a = c.args in
    let e = in_row a.samples.now a.base c.loop-k.k c.loop-k.invariant.0 in
    sym (c.loop-k.invariant.2 ∙ mended_live (row a.samples.now a.base) (c.loop-k.k - a.base) (λ d. c.if-x.true (sym e ∙ d)) ∙ e)

pub loop-k-preserved : goal.loop-k-preserved
loop-k-preserved c = let a = c.args in
    let e = in_row a.samples.now a.base c.loop-k.k c.loop-k.invariant.0 in
    let back : c.loop-k.k - a.base - 1 ≡ c.loop-k.k - 1 - a.base = omega arith in (
      omega arith,
      omega arith,
      c.loop-k.invariant.2
          ∙ mended_back (row a.samples.now a.base) (c.loop-k.k - a.base) (omega arith) (e ∙ c.if-x.false)
          ∙ ap (mended_at (row a.samples.now a.base)) back,
    )

pub returns-then-x-2 : goal.returns-then-x-2
returns-then-x-2 c = let a = c.args in
    let k : c.loop-k.k ≡ a.base = omega arith in
    let e = in_row a.samples.now a.base c.loop-k.k c.loop-k.invariant.0 ∙ ap (λ i. get_or a.samples.now i 0) k in
    sym (c.loop-k.invariant.2 ∙ mended_live (row a.samples.now a.base) (c.loop-k.k - a.base) (λ d. c.if-x-2.true (sym e ∙ d)) ∙ e)

pub returns-else-x-2 : goal.returns-else-x-2
returns-else-x-2 c = let a = c.args in
    let k : c.loop-k.k - a.base ≡ 0 = omega arith in
    let e : row a.samples.now a.base 0 ≡ get_or a.samples.now a.base 0 = ap (λ i. get_or a.samples.now i 0) (omega arith) in
    sym (c.loop-k.invariant.2 ∙ ap (mended_at (row a.samples.now a.base)) k ∙ mended_first (row a.samples.now a.base) (e ∙ c.if-x-2.false))
