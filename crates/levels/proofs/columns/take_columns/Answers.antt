-- `levels::take_columns` asks and moves column after column; at one that is not good, those before it are moved back.
-- Assumes nothing.
use Prim.Native.Nat.{◌+◌, ◌*◌, ◌≤◌}
use native.Mathlib.Nat.{not-suc-le-zero}
use native.Mathlib.Omega.{arith}
use mathlib.Core.Path.{◌≡◌, sym, subst, ◌∙◌}
use lib.Dec.{T}
use lib.ListN.{length, get_or}
use Rattle.arith.proofs.Alls.{up_to, all_of, all_fails}
use Rattle.arith.proofs.Bools.{true_of}
use Rattle.levels.specs.Levels.{column_good_at}
use Rattle.levels.proofs.Changes.{part_good, column_cong}
use Rattle.levels.proofs.Lines.{none_moved, untouched, ends, good_next, next_moved, all_back, back_all_fit}
use Rattle.levels.proofs.columns.take_columns.Goals as goal

pub loop-c-init : goal.loop-c-init
loop-c-init c = (none_moved _ _ _ _ _ _, λ k l. absurd (not-suc-le-zero l))

pub move_columns-requires : goal.move_columns-requires
move_columns-requires c = let l = c.loop-c in
    let p = c.requires in
    back_all_fit _ _ _ _ _ _ l.invariant.0 c.args.levels c.args.most p.counts_long l.invariant.1
    p.few p.small p.less_most p.off_long p.on_long

pub returns-then-not-column_good-clause-value : goal.returns-then-not-column_good-clause-value
returns-then-not-column_good-clause-value c =
    let whole : c.loop-c.c * 256 + 256 ≤ length c.loop-c.counts = ends _ _ _ _ _ _ c.loop-c.invariant.0 c.requires.counts_long c.loop-c-test.true in
    let levels-end : c.loop-c.c * 256 + c.args.levels ≤ length c.loop-c.counts = let f = c.requires.few in let h = whole in omega arith in
    let asked : let a = c.args in c.column_good.result ≡ column_good_at a.levels a.most a.counts.now a.off.now a.less a.on.now a.more c.loop-c.c = let l = c.loop-c in
    let a = c.args in
    let x = get_or a.off.now l.c 0 in
    let y = get_or a.on.now l.c 0 in
    c.column_good.ensures
    ∙ part_good l.counts l.c a.levels (levels-end) a.most x a.less y a.more
    ∙ column_cong a.levels a.most x a.less y a.more (λ v p. untouched _ _ _ _ _ _ l.invariant.0 v) in
    let l = c.loop-c in
    let a = c.args in
    let no = sym (asked) ∙ c.if-not-column_good.true in
    sym (all_fails a.width (column_good_at a.levels a.most a.counts.now a.off.now a.less a.on.now a.more)
    l.c c.loop-c-test.true no)

pub returns-then-not-column_good-clause-counts_after : goal.returns-then-not-column_good-clause-counts_after
returns-then-not-column_good-clause-counts_after c =
    let whole : c.loop-c.c * 256 + 256 ≤ length c.loop-c.counts = ends _ _ _ _ _ _ c.loop-c.invariant.0 c.requires.counts_long c.loop-c-test.true in
    let levels-end : c.loop-c.c * 256 + c.args.levels ≤ length c.loop-c.counts = let f = c.requires.few in let h = whole in omega arith in
    let asked : let a = c.args in c.column_good.result ≡ column_good_at a.levels a.most a.counts.now a.off.now a.less a.on.now a.more c.loop-c.c = let l = c.loop-c in
    let a = c.args in
    let x = get_or a.off.now l.c 0 in
    let y = get_or a.on.now l.c 0 in
    c.column_good.ensures
    ∙ part_good l.counts l.c a.levels (levels-end) a.most x a.less y a.more
    ∙ column_cong a.levels a.most x a.less y a.more (λ v p. untouched _ _ _ _ _ _ l.invariant.0 v) in
    let l = c.loop-c in
    let a = c.args in
    let no = sym (asked) ∙ c.if-not-column_good.true in
    c.move_columns.ensures ∙ all_back _ _ _ _ _ _ l.invariant.0 a.levels a.most c.requires.counts_long l.invariant.1

pub change-requires : goal.change-requires
change-requires c =
    let whole : c.loop-c.c * 256 + 256 ≤ length c.loop-c.counts = ends _ _ _ _ _ _ c.loop-c.invariant.0 c.requires.counts_long c.loop-c-test.true in
    let levels-end : c.loop-c.c * 256 + c.args.levels ≤ length c.loop-c.counts = let f = c.requires.few in let h = whole in omega arith in
    let asked : let a = c.args in c.column_good.result ≡ column_good_at a.levels a.most a.counts.now a.off.now a.less a.on.now a.more c.loop-c.c = let l = c.loop-c in
    let a = c.args in
    let x = get_or a.off.now l.c 0 in
    let y = get_or a.on.now l.c 0 in
    c.column_good.ensures
    ∙ part_good l.counts l.c a.levels (levels-end) a.most x a.less y a.more
    ∙ column_cong a.levels a.most x a.less y a.more (λ v p. untouched _ _ _ _ _ _ l.invariant.0 v) in
    let l = c.loop-c in
    let a = c.args in
    let p = c.requires in
    let t = subst T (sym (c.if-not-column_good.false) ∙ asked) tt in
    good_next _ _ _ _ _ _ l.invariant.0 p.counts_long c.loop-c-test.true a.levels a.most t p.few p.small p.less_most p.more_most

pub loop-c-preserved : goal.loop-c-preserved
loop-c-preserved c =
    let whole : c.loop-c.c * 256 + 256 ≤ length c.loop-c.counts = ends _ _ _ _ _ _ c.loop-c.invariant.0 c.requires.counts_long c.loop-c-test.true in
    let levels-end : c.loop-c.c * 256 + c.args.levels ≤ length c.loop-c.counts = let f = c.requires.few in let h = whole in omega arith in
    let asked : let a = c.args in c.column_good.result ≡ column_good_at a.levels a.most a.counts.now a.off.now a.less a.on.now a.more c.loop-c.c = let l = c.loop-c in
    let a = c.args in
    let x = get_or a.off.now l.c 0 in
    let y = get_or a.on.now l.c 0 in
    c.column_good.ensures
    ∙ part_good l.counts l.c a.levels (levels-end) a.most x a.less y a.more
    ∙ column_cong a.levels a.most x a.less y a.more (λ v p. untouched _ _ _ _ _ _ l.invariant.0 v) in
    let l = c.loop-c in
    let a = c.args in
    let t = subst T (sym (c.if-not-column_good.false) ∙ asked) tt in (
      next_moved _ _ _ _ _ _ l.invariant.0 c.requires.counts_long c.loop-c-test.true c.change.ensures,
      up_to {P = λ k. T (column_good_at a.levels a.most a.counts.now a.off.now a.less a.on.now a.more k)} l.c l.invariant.1 t,
    )

pub returns-clause-value : goal.returns-clause-value
returns-clause-value c =
    let a = c.args in
    let n = c.loop-c-test.false in
    let good = all_of a.width (column_good_at a.levels a.most a.counts.now a.off.now a.less a.on.now a.more)
    (λ k h. c.loop-c.invariant.1 k (omega arith)) in
    sym (true_of _ good)
