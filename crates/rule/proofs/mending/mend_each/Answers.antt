use Rattle.std.proofs.Common.{◌≡◌, ◌∙◌, sym, ℕ, arith, get_or, length}
use Rattle.std.proofs.Math.Numerals.{add-one}
use Rattle.std.proofs.lemmas.Grind.{common_steps}
use Rattle.arith.proofs.Tabs.{tab_cong, tab-get_or}
use Rattle.rule.specs.Mended.{mended, mended_at}
use Rattle.rule.proofs.Mended.{before_none, before_next, mended_step}
use Rattle.rule.proofs.mending.mend_each.Goals as goal

pub loop-k-init : goal.loop-k-init
loop-k-init c = record { done = λ j h. omega arith; carried = sym (before_none (λ i. get_or c.args.row.now i 0)) }

pub loop-k-preserved : goal.loop-k-preserved
loop-k-preserved c =
    let k = c.loop-k.k in
    let i = c.loop-k.invariant in
    let f : ℕ → ℕ = λ j. get_or c.args.row.now j 0 in
    let e : c.live_sample-left.result ≡ mended_at f k = c.live_sample-left.ensures ∙ rw i.carried (sym (mended_step f k)) in
    record { done = λ j h. grind (arith, common_steps, e, i.done j); carried = rw add-one (e ∙ sym (before_next f k)) }

pub returns : goal.returns
unfolding mended
returns c =
    let n = length c.args.row.now in
    sym (tab-get_or c.loop-k.line n 0 (omega arith)) ∙ tab_cong n (λ j h. c.loop-k.invariant.done j (omega arith))
