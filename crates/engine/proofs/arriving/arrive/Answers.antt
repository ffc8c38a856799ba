-- `engine::arrive` is refused where question 19 is answered no, with all as it was; else the ring holds the row, and sums and output are what
-- an accepted arrival leaves.
use Rattle.std.proofs.Common.{◌≡◌, refl, ◌∙◌, Err, rules, arith}
use Rattle.arrival.specs.Arrivals.{Arrival, arriving, samples_after}
use Rattle.arrival.proofs.Delays.{delay_most}
use Rattle.engine.proofs.Takes.{same_leaves, arrival_refused, arrival_accepted}
use Rattle.engine.proofs.arriving.arrive.Goals as goal

pub invariant_of-arriving : goal.invariant_of-arriving
invariant_of-arriving c =
    let r = c.requires in
    let l = r.long in
    let w = r.width_most in
    let s = r.samples_long in
    let d = c.delay.ensures in
    let m = delay_most c.args.t r.table in
    record {
      table_good = r.table;
      width_most = omega arith;
      number_most = r.number_most;
      delay_is = d;
      delay_most = omega arith;
      samples_long = omega arith;
    }

pub returns-in_err-take_in : goal.returns-in_err-take_in
returns-in_err-take_in c =
    let a = c.args in
    let passed-on : c.from_residual.result ≡ Err c.in_err-take_in.field-0.0 = search rules in
    rw passed-on (arrival_refused (arriving a.t a.width a.number a.row.now a.samples.now a.sums.now) a.out.now refl (rw c.requires.long at c.in_err-take_in.ensures))

pub returns : goal.returns
unfolding samples_after
returns c =
    let a = c.args in
    let v : Arrival = arriving a.t a.width a.number a.row.now a.samples.now a.sums.now in
    let kept : c.keep.new.samples ≡ samples_after v = rw c.requires.long at c.keep.ensures in
    same_leaves kept refl refl ∙ arrival_accepted v a.out.now refl (rw c.requires.long at c.in_ok-take_in.ensures)
