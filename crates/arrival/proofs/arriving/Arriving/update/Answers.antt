-- `Arriving::update` answers and writes what its pass does: it reads the columns that the definition names, so its answer is
-- question 19, its sums are the updated ones, and the line is that of the truncated new sums where it holds.
use Rattle.std.proofs.Common.{ℕ, ◌+◌, ◌-◌, ◌*◌, ◌≤◌, le_of_eq, arith, rules, true, List, ◌++◌, ◌≡◌, sym, ap, subst, ◌∙◌, T, length, get_or, take, drop, to_z-of_z}
use mir.Syntax.{w8}
use mir.Val.{SFits}
use borrow.Rule.Slice.PartMut.{put_mid, mid_len}
use Rattle.arith.specs.All.{all}
use Rattle.arith.specs.Tab.{tab}
use Rattle.arith.proofs.Alls.{all_cong}
use Rattle.arith.proofs.Parts.{part, part_length, line_end_lem}
use Rattle.arith.proofs.Passes.{pass_whole}
use Rattle.arith.proofs.Tabs.{length-tab}
use Rattle.layout.specs.Contents.{rect}
use Rattle.limits.proofs.Granted.{granted}
use Rattle.passes.specs.Passes.{movable_at, new_at}
use Rattle.arrival.specs.Arriving.{arrival}
use Rattle.arrival.specs.Arrivals.{Arrival, sum_most, sum_good}
use Rattle.arrival.specs.Rectangles.{updated_sum, line_of, ZeroPadded}
use Rattle.arrival.proofs.Columns.{edge_line, edge_line_lem, movable_good, new_sum_lem, updated_sum_lem}
use Rattle.arrival.proofs.Written.{padded_put, line_put, line_renewed}
use Rattle.arrival.proofs.arriving.Arriving.update.Goals as goal

pub offset_bounds-t-k : goal.offset_bounds-t-k
offset_bounds-t-k c = let f = (granted _ c.args.self.now.table_good).few in
    let l = c.requires.few in
    search (rules, f, l)

pub bounds-t-k : goal.bounds-t-k
bounds-t-k c = let f = (granted _ c.args.self.now.table_good).few in
    let l = c.requires.few in
    omega arith

pub sum_most-most-requires : goal.sum_most-most-requires
sum_most-most-requires c = let g = granted _ c.args.self.now.table_good in
    let q = g.q1_less in
    ((g.bounds c.args.k c.requires.few).rows_most, omega arith, g.bits_most)

pub update_line-requires : goal.update_line-requires
update_line-requires c =
    let a = c.args.self.now in
    let w : ℕ = length a.row.now in
    let place : ℕ = c.args.k * w in
    let ends : place + w ≤ length c.args.sums.now = line_end_lem c.args.k a.table.now.count w (length c.args.sums.now) c.requires.few c.requires.sums_long in
    let long : length (part place w c.args.sums.now) ≡ w = part_length place w c.args.sums.now ends in
    let g = granted _ a.table_good in
    let m = c.sum_most-most.ensures.upper_bound in
    let l = c.requires.padded.places in
    let k = mid_len 32 (32 + w) c.args.line.now (omega arith) in
    record {
      line_long = omega arith;
      off_long = le_of_eq (long ∙ sym (ap length c.edge_row-off.ensures ∙ length-tab w _));
      on_long = le_of_eq (long ∙ sym (ap length c.edge_row-on.ensures ∙ length-tab w _));
      bound_at_most = omega arith;
      q1_most = let x = g.bits_most in let y = g.q1_less in omega arith;
      q2_most = g.q2_most;
    }

pub returns : goal.returns
unfolding sum_most
returns c =
    let a = c.args.self.now in
    let w : ℕ = length a.row.now in
    let k : ℕ = c.args.k in
    let v : Arrival = arrival a c.args.sums.now in
    let off-row : c.edge_row-off.result.now ≡ edge_line v (rect a.table.now k).trailrow = let f : SFits w8 (rect a.table.now k).trailrow = search rules in
    edge_line_lem v a.delay _ a.delay_is (rw (to_z-of_z f) at c.edge_row-off.ensures) in
    let on_row : c.edge_row-on.result.now ≡ edge_line v (rect a.table.now k).leadrow = let f : SFits w8 (rect a.table.now k).leadrow = search rules in
    edge_line_lem v a.delay _ a.delay_is (rw (to_z-of_z f) at c.edge_row-on.ensures) in
    let most-is : c.sum_most-most.result ≡ sum_most a.table.now (rect a.table.now k) = c.sum_most-most.ensures.value in
    let place : ℕ = k * w in
    let ends : place + w ≤ length c.args.sums.now = line_end_lem k a.table.now.count w (length c.args.sums.now) c.requires.few c.requires.sums_long in
    let long : length (part place w c.args.sums.now) ≡ w = part_length place w c.args.sums.now ends in
    let lent : List ℕ = part place w c.args.sums.now in
    let answered : c.update_line.result ≡ all w (sum_good v k) = c.update_line.ensures.value ∙ ap (λ n. all n (movable_at lent c.edge_row-off.result.now c.edge_row-on.result.now c.sum_most-most.result a.table.now.q1)) long
    ∙ all_cong w (λ n h. movable_good v k off-row on_row n h most-is) in
    let updated : put_mid place (place + w - place) c.args.sums.now c.update_line.new.sums ≡ put_mid place w c.args.sums.now (tab w (updated_sum v k)) = line_renewed place w c.args.sums.now ends c.update_line.ensures.sums_after
    (updated_sum_lem v k off-row on_row) in
    let written : List ℕ = put_mid 32 (32 + w - 32) c.args.line.now c.update_line.new.line in
    let mid : length (take (32 + w - 32) (drop 32 c.args.line.now)) ≡ w = let l = c.requires.padded.places in
    mid_len 32 (32 + w) c.args.line.now (omega arith) ∙ omega arith in
    let padded : ZeroPadded w written = padded_put c.args.line.now c.update_line.new.line w c.requires.padded (c.update_line.auto.line ∙ mid) in
    let line : c.update_line.result ≡ true → (i : ℕ) → get_or written i 0 ≡ line_of v k i = λ good. line_put v k c.args.line.now c.update_line.new.line c.requires.padded
    (c.update_line.ensures.line_after (subst T (sym good) tt) ∙ ap (λ n. tab n (new_at lent c.edge_row-off.result.now c.edge_row-on.result.now a.table.now.q1 a.table.now.q2) ++ drop n (part 32 w c.args.line.now)) long
    ∙ pass_whole w _ mid (new_sum_lem v k off-row on_row)) in
    record { answer = answered; sums = updated; padded = padded; line = line }
