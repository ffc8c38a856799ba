-- `Arriving::roll_back` rolls the sums of its line of the store back by the rows that its edges reach.
use Rattle.std.proofs.Common.{ℕ, ◌+◌, ◌*◌, ◌≤◌, arith, rules, ◌≡◌, ap, ◌∙◌, length, to_z-of_z}
use mir.Syntax.{w8}
use mir.Val.{SFits}
use Rattle.arith.proofs.Parts.{part, part_length, line_end_lem}
use Rattle.arith.proofs.Tabs.{length-tab}
use Rattle.layout.specs.Contents.{rect}
use Rattle.limits.proofs.Granted.{granted}
use Rattle.arrival.specs.Arriving.{arrival}
use Rattle.arrival.specs.Arrivals.{Arrival}
use Rattle.arrival.proofs.Columns.{edge_line, edge_line_lem, rolled_back_sum_lem}
use Rattle.arrival.proofs.Written.{line_renewed}
use Rattle.arrival.proofs.arriving.Arriving.roll_back.Goals as goal

pub offset_bounds-self-k : goal.offset_bounds-self-k
offset_bounds-self-k c = let f = (granted _ c.args.self.now.table_good).few in
    let l = c.requires.few in
    search (rules, f, l)

pub bounds-self-k : goal.bounds-self-k
bounds-self-k c = let f = (granted _ c.args.self.now.table_good).few in
    let l = c.requires.few in
    omega arith

pub roll_back-requires : goal.roll_back-requires
roll_back-requires c =
    let a = c.args.self.now in
    let w : ℕ = length a.row.now in
    let place : ℕ = c.args.k * w in
    let ends : place + w ≤ length c.args.sums.now = line_end_lem c.args.k a.table.now.count w (length c.args.sums.now) c.requires.few c.requires.sums_long in
    let long : length (part place w c.args.sums.now) ≡ w = part_length place w c.args.sums.now ends in
    let g = granted _ a.table_good in
    let off = ap length c.edge_row-off.ensures ∙ length-tab w _ in
    let on = ap length c.edge_row-on.ensures ∙ length-tab w _ in
    record {
      off_long = omega arith;
      on_long = omega arith;
      q1_most = let x = g.bits_most in let y = g.q1_less in omega arith;
    }

pub returns : goal.returns
returns c =
    let a = c.args.self.now in
    let w : ℕ = length a.row.now in
    let k : ℕ = c.args.k in
    let v : Arrival = arrival a c.args.sums.now in
    let place : ℕ = k * w in
    let ends : place + w ≤ length c.args.sums.now = line_end_lem k a.table.now.count w (length c.args.sums.now) c.requires.few c.requires.sums_long in
    let off-row : c.edge_row-off.result.now ≡ edge_line v (rect a.table.now k).trailrow = let f : SFits w8 (rect a.table.now k).trailrow = search rules in
    edge_line_lem v a.delay _ a.delay_is (rw (to_z-of_z f) at c.edge_row-off.ensures) in
    let on_row : c.edge_row-on.result.now ≡ edge_line v (rect a.table.now k).leadrow = let f : SFits w8 (rect a.table.now k).leadrow = search rules in
    edge_line_lem v a.delay _ a.delay_is (rw (to_z-of_z f) at c.edge_row-on.ensures) in
    line_renewed place w c.args.sums.now ends c.roll_back.ensures (rolled_back_sum_lem v k off-row on_row)
