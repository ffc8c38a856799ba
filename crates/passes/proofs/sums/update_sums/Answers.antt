-- Assumes nothing.
use Rattle.std.proofs.Common.{◌≡◌, ◌+◌, ◌/◌, ◌^◌, ◌&&◌, T, ap, ◌∙◌, subst, add-one, arith, rules}
use mir.Facts.{and_yes}
use Rattle.std.proofs.lemmas.Grind.{common_steps}
use Rattle.arith.specs.All.{all}
use Rattle.arith.proofs.Alls.{all-suc, or_next}
use Rattle.passes.specs.Passes.{movable_at, stepped_at}
use Rattle.passes.proofs.Columns.{filled, filled_first, one_done}
use Rattle.passes.proofs.Steps.{step_exact}
use Rattle.passes.proofs.sums.update_sums.Goals as goal

pub loop-c-init : goal.loop-c-init
unfolding all
loop-c-init c = search rules

pub loop-c-preserved : goal.loop-c-preserved
loop-c-preserved c = let a = c.args in
    let h = c.loop-c.invariant in
    let k = c.loop-c.c in
    let good = movable_at a.sums.now a.off.now a.on.now a.bound a.q1 in
    let at = h.rest k (omega arith) in
    let sum : c.move_sum-moved.result.0 ≡ stepped_at a.sums.now a.off.now a.on.now a.q1 k = rw at at c.move_sum-moved.ensures.sum_value in
    let e : all (k + 1) good ≡ (all k good && good k) = rw (add-one k) (all-suc k good) in
    record {
      done = one_done _ _ k _ 0 (omega arith) h.done sum;
      rest = grind (arith, common_steps, h.rest);
      written =
          λ p.
          let b = and_yes (all k good) (good k) (subst T e p) in
          let new = ap (λ x. x / 2 ^ a.q2) (sum ∙ step_exact _ _ _ a.bound c.requires.bound_at_most b.1) in
          one_done _ _ k _ 0 (let l = c.requires.line_long in omega arith) (h.written b.0) new;
      beyond = grind (arith, common_steps, h.beyond);
      asked = or_next 17 c.loop-c.past _ k good h.asked (rw at at c.move_sum-moved.ensures.bound_end_value);
    }

pub returns-clause-sums_after : goal.returns-clause-sums_after
returns-clause-sums_after c = filled _ _ _ 0 (omega arith) (λ k below. c.loop-c.invariant.done k (omega arith))

pub returns-clause-line_after : goal.returns-clause-line_after
returns-clause-line_after c = λ t. let h = c.loop-c.invariant in
    filled_first _ _ _ _ 0 c.requires.line_long (omega arith) (λ k below. h.written (search rules) k (omega arith)) (λ k above. h.beyond k (omega arith))
