use Rattle.std.proofs.Common.{◌∙◌, sym, arith, length, None}
use Rattle.arith.proofs.Tabs.{tab_cong, tab-get_or}
use Rattle.choices.proofs.ratings.rate.Goals as goal

pub returns : goal.returns
returns c =
    let n = length c.args.figures.now in
    let t = c.loop-i-test.false in
    let l = c.loop-i.auto.figures in
    sym (tab-get_or c.loop-i.figures n None (omega arith)) ∙ tab_cong n (λ k h. c.loop-i.invariant k (omega arith))
