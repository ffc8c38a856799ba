use Rattle.std.proofs.Common.{◌∙◌, sym, arith, length, false}
use Rattle.arith.proofs.Tabs.{tab_cong, tab-get_or}
use Rattle.choices.proofs.marks.mark_each.Goals as goal

pub returns : goal.returns
returns g c =
    let n = length c.args.marks.now in
    let t = c.loop-i-test.false in
    let l = c.loop-i.auto.marks in
    sym (tab-get_or c.loop-i.marks n (g.M.Flag.flag_of false) (omega arith)) ∙ tab_cong n (λ k h. c.loop-i.invariant k (omega arith))
