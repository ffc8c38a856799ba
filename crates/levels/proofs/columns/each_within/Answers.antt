-- `levels::each_within`: every level passed is within the bound, so that the first that is not decides, and with none all are.
-- Assumes nothing.
use native.Mathlib.Omega.{arith}
use mathlib.Core.Path.{sym}
use lib.Dec.{T, leb, le→leb}
use lib.ListN.{length}
use borrow.Author.Tests.{lt-leb}
use Rattle.arith.proofs.Alls.{up_to, all_of, all_fails}
use Rattle.arith.proofs.Bools.{true_of}
use Rattle.levels.specs.Levels.{count_of, moved_count}
use borrow.Author.Rules.{rules}
use Rattle.levels.proofs.columns.each_within.Goals as goal

pub returns-then-from-moved : goal.returns-then-from-moved
unfolding moved_count
returns-then-from-moved c = let a = c.args in
    let v = c.loop-v.v in
    let m = moved_count (count_of a.col.now) a.x a.less a.y a.more in
    let e = c.moved.ensures in
    let f = c.from.ensures in
    let t = c.if-from-moved.true in
    sym (all_fails (length a.col.now) (λ u. leb (m u) a.most) v (search rules) (lt-leb (m v) a.most (omega arith)))

pub loop-v-preserved : goal.loop-v-preserved
unfolding moved_count
loop-v-preserved c = let a = c.args in
    let v = c.loop-v.v in
    let m = moved_count (count_of a.col.now) a.x a.less a.y a.more in
    let e = c.moved.ensures in
    let f = c.from.ensures in
    let t = c.if-from-moved.false in
    up_to {P = λ u. T (leb (m u) a.most)} v c.loop-v.invariant (le→leb (m v) a.most (omega arith))

pub returns : goal.returns
returns c = let a = c.args in
    sym (true_of _ (all_of (length a.col.now) (λ u. leb (moved_count (count_of a.col.now) a.x a.less a.y a.more u) a.most) (λ u l. c.loop-v.invariant u (omega arith))))
