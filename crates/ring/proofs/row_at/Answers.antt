-- `ring::row_at` lends a row: the arriving one itself, or the part of the store where row e stands, which ends within 32 rows.
-- Assumes nothing.
use Rattle.std.proofs.Common.{◌+◌, ◌*◌, ◌%◌, ◌≤◌, length, refl, sym, ◌∙◌, arith}
use borrow.Author.Tests.{eq-eqb, ne_eqb}
use Rattle.arith.proofs.Parts.{part-tab}
use Rattle.arith.proofs.Tabs.{tab_cong, tab-get_or}
use Rattle.ring.specs.Ring.{row_at}
use Rattle.ring.proofs.Kept.{place_end}
use Rattle.ring.proofs.row_at.Goals as goal

pub returns-then-e-arrival : goal.returns-then-e-arrival
unfolding row_at
returns-then-e-arrival c = let a = c.args in
    sym (tab-get_or a.row.now _ 0 refl) ∙ tab_cong _ (λ k h. rw (eq-eqb a.e a.arrival c.if-e-arrival.true) refl)

pub returns : goal.returns
unfolding row_at
returns c = let a = c.args in
    let l = length a.row.now in
    let ends : a.e % 32 * l + l ≤ length a.samples.now = let p = place_end a.e l in let r = c.requires in omega arith in
    part-tab (a.e % 32 * l) l a.samples.now ends ∙ tab_cong l (λ k h. rw (ne_eqb a.e a.arrival c.if-e-arrival.false) refl)
