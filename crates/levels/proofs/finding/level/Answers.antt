-- `levels::level` goes on from the block in which the rank is reached: of the part from there on, the levels passed are those of the whole.
-- Assumes nothing.
use Rattle.std.proofs.lemmas.Bool.{cases_lt}
use Prim.Native.Nat.{min, ℕ, ◌+◌, ◌-◌, ◌≤◌, ◌<◌}
use native.Mathlib.Omega.{arith}
use mathlib.Core.Logic.{◌⊎◌, inl, inr, ⊎_elim}
use mathlib.Core.List.{List}
use mathlib.Core.Path.{◌≡◌, sym, ap, ap₂, ◌∙◌}
use lib.Dec.{ltb}
use lib.ListN.{length, take, drop}
use lib.Seq.{get_or-take, get_or-drop}
use Rattle.arith.specs.First.{first_not}
use Rattle.arith.proofs.Firsts.{first_most, first_after}
use Rattle.arith.proofs.Parts.{part_long}
use Rattle.arith.proofs.Sums.{sum_bound}
use Rattle.levels.specs.Levels.{count_of, up_to, below}
use Rattle.levels.proofs.Ranks.{all_below, passed_from, reached_within}
use borrow.Author.Rules.{rules}
use Rattle.levels.proofs.finding.level.Goals as goal

-- where the part ends that is looked at level by level: with a whole block in which the rank is reached, or with the levels
record End (at end : ℕ) (counts : List ℕ) : Type 0 where
  from : at ≤ end
  within : end ≤ length counts
  is : (end ≡ at + 16) ⊎ (end ≡ length counts)

end_is : (at end : ℕ) (counts : List ℕ) → at ≤ length counts → end ≡ min (length counts) (at + 16) → End at end counts
end_is at end counts h e = record { from = omega arith; within = omega arith; is = ⊎_elim (λ (p : length counts < at + 16). inr (omega arith)) (λ (p : at + 16 ≤ length counts). inl (omega arith)) (cases_lt (length counts) (at + 16)) }

pub passed-requires : goal.passed-requires
passed-requires c =
    let ends : End c.blocks-b.result.at c.min-end.result c.args.counts.now = end_is _ _ _ c.blocks-b.ensures.passed.in_list (search (rules, c.min-end.ensures)) in
    let at : ℕ = c.blocks-b.result.at in
    let counts : List ℕ = (c).args.counts.now in
    let lent : List ℕ = take (c.min-end.result - at) (drop (at) (counts)) in
    let long : length (lent) ≡ c.min-end.result - at = part_long (at) (c.min-end.result - at) (counts) (let e = ends in let f = e.from in let w = e.within in omega arith) in
    let lent_at : (i : ℕ) → i < c.min-end.result - at → count_of (lent) i ≡ count_of (counts) (at + i) = λ i h. get_or-take (c.min-end.result - at) (drop (at) (counts)) i 0 h ∙ get_or-drop (at) (counts) i 0 in
    let p = (c).requires in
    let b = c.blocks-b.ensures.passed in
    let n = b.in_list in
    let few = p.few in
    let s = b.is in
    let e = ends in
    let f = e.from in
    let w = e.within in
    let l = long in
    let m = sum_bound (at) 4095 {f = count_of (counts)} (λ k h. p.small k (omega arith)) in
    record {
      few = omega arith;
      small = λ v h. rw (lent_at v (omega arith)) (p.small (at + v) (omega arith));
      before_most = omega arith;
    }

pub overflow_add-result : goal.overflow_add-result
overflow_add-result c =
    let at : ℕ = c.blocks-b.result.at in
    let counts : List ℕ = (c).args.counts.now in
    let lent : List ℕ = take (c.min-end.result - at) (drop (at) (counts)) in
    let ends : End c.blocks-b.result.at c.min-end.result c.args.counts.now = end_is _ _ _ c.blocks-b.ensures.passed.in_list (search (rules, c.min-end.ensures)) in
    let long : length (lent) ≡ c.min-end.result - at = part_long (at) (c.min-end.result - at) (counts) (let e = ends in let f = e.from in let w = e.within in omega arith) in
    let lent_at : (i : ℕ) → i < c.min-end.result - at → count_of (lent) i ≡ count_of (counts) (at + i) = λ i h. get_or-take (c.min-end.result - at) (drop (at) (counts)) i 0 h ∙ get_or-drop (at) (counts) i 0 in
    let passed_is : c.passed.result ≡ first_not (c.min-end.result - at) (λ i. below (count_of (counts)) (c).args.rank (at + i)) = let n = c.min-end.result - at in
    let f = count_of (counts) in
    let g = count_of (lent) in
    let R = (c).args.rank in
    c.passed.ensures ∙ ap₂ (λ i s. first_not i (λ k. ltb (s + up_to g k) R)) (long) c.blocks-b.ensures.passed.is ∙ passed_from f R (at) n g (lent_at) in
    let e = passed_is in
    let m = first_most (c.min-end.result - at) (λ i. below (count_of (counts)) (c).args.rank (at + i)) in
    let f = (ends).from in
    let w = (ends).within in
    let few = (c).requires.few in
    search (rules, e, m, f, w, few)

pub returns : goal.returns
returns c =
    let at : ℕ = c.blocks-b.result.at in
    let counts : List ℕ = (c).args.counts.now in
    let ends : End c.blocks-b.result.at c.min-end.result c.args.counts.now = end_is _ _ _ c.blocks-b.ensures.passed.in_list (search (rules, c.min-end.ensures)) in
    let lent : List ℕ = take (c.min-end.result - at) (drop (at) (counts)) in
    let long : length (lent) ≡ c.min-end.result - at = part_long (at) (c.min-end.result - at) (counts) (let e = ends in let f = e.from in let w = e.within in omega arith) in
    let lent_at : (i : ℕ) → i < c.min-end.result - at → count_of (lent) i ≡ count_of (counts) (at + i) = λ i h. get_or-take (c.min-end.result - at) (drop (at) (counts)) i 0 h ∙ get_or-drop (at) (counts) i 0 in
    let passed_is : c.passed.result ≡ first_not (c.min-end.result - at) (λ i. below (count_of (counts)) (c).args.rank (at + i)) = let n = c.min-end.result - at in
    let f = count_of (counts) in
    let g = count_of (lent) in
    let R = (c).args.rank in
    c.passed.ensures ∙ ap₂ (λ i s. first_not i (λ k. ltb (s + up_to g k) R)) (long) c.blocks-b.ensures.passed.is ∙ passed_from f R (at) n g (lent_at) in
    let within_block : (k : ℕ) → k ≡ first_not (c.min-end.result - at) (λ i. below (count_of (counts)) (c).args.rank (at + i)) → c.min-end.result ≡ at + 16 → k < c.min-end.result - at = λ k e q. let n : c.min-end.result - at ≡ 16 = omega arith in
    let w = (ends).within in
    let r = reached_within (count_of (counts)) (c).args.rank (at) 15 (c.blocks-b.ensures.reached (omega arith)) in
    rw n (rw (e ∙ ap (λ i. first_not i (λ i. below (count_of (counts)) (c).args.rank (at + i))) n) r) in
    let n = c.min-end.result - at in
    let f = count_of (counts) in
    let R = (c).args.rank in
    let b = c.blocks-b.ensures in
    let s = b.passed.is in
    let l = b.passed.less in
    let u = (ends).from in
    let w = (ends).within in
    sym (first_after (at) n (below f R) c.passed.result (all_below f R (at) (omega arith)) (passed_is) (length (counts)) (omega arith)
    (⊎_elim (λ e. inl (within_block _ (passed_is) e)) (λ e. inr (omega arith)) (ends).is))
