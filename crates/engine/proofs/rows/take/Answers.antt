-- `engine::take` is refused at the first rectangle that fails question 19, or at a row that is due and does not fit its words, with the
-- sums rolled back to what they were; else the sums are the new ones, and each value is the pixel of its column.
use Rattle.std.proofs.Common.{ℕ, ◌+◌, ◌≤◌, ◌<◌, arith, rules, ◌≡◌, refl, sym, ap, ◌∙◌, Bool, true, false, ◌||◌, length, get_or, lt-ltb, le-ltb}
use Rattle.arith.specs.All.{all}
use Rattle.arith.specs.Twos.{fits_signed}
use Rattle.arith.proofs.Alls.{all_of}
use Rattle.arith.proofs.Parts.{line_end_lem}
use Rattle.layout.specs.Measure.{delay_of}
use Rattle.limits.proofs.Granted.{granted}
use Rattle.arrival.specs.Arriving.{arrival}
use Rattle.arrival.specs.Arrivals.{Arrival, pixel_at, due_good, output_after, leaves}
use Rattle.arrival.proofs.Carries.{all_updated, all_back}
use Rattle.engine.proofs.Pixels.{not_due, due_by, surely_due}
use Rattle.engine.proofs.Takes.{same_leaves, refused_sums, refused_due, taken_in}
use Rattle.engine.proofs.rows.take.Goals as goal

-- whether the pixels of the row that is due fit their words, asked or sure
answered : (v : Arrival) → delay_of v.table ≤ v.number → (sure : Bool) → (sure ≡ true → due_good v ≡ true) → {g : Bool}
    → g ≡ (sure || all v.width (λ c. fits_signed v.table.w (pixel_at v c))) → g ≡ due_good v
answered v due true s a = a ∙ sym (s refl)
answered v due false s a = a ∙ sym (due_by v due)

pub overflow_add-k : goal.overflow_add-k
overflow_add-k g c =
    let f = (granted _ c.args.arriving.now.table_good).few in
    let l = c.in-Err.ensures.stopped.few in
    search (rules, f, l)

pub carried-requires : goal.carried-requires
carried-requires g c =
    let f = (granted _ c.args.arriving.now.table_good).few in
    let l = c.in-Err.ensures.stopped.few in
    omega arith

pub carried-requires-then-not-write : goal.carried-requires-then-not-write
carried-requires-then-not-write g c =
    let f = (granted _ c.args.arriving.now.table_good).few in
    let d = c.args.arriving.now.delay_most in
    omega arith

pub returns-in-Err : goal.returns-in-Err
returns-in-Err g c =
    let a = c.args.arriving.now in
    let v : Arrival = arrival a c.args.sums.now in
    let small : (i : ℕ) → get_or c.args.sums.now i 0 < 4294967296 = search rules in
    let stop = c.in-Err.ensures.stopped in
    let l = line_end_lem c.in-Err.k v.table.count v.width (length v.sums) stop.few c.requires.sums_long in
    ap (λ s. leaves s a.samples.now c.roll_back_first.new.sums c.args.out.now) c.carried.ensures
    ∙ same_leaves refl (c.roll_back_first.ensures ∙ all_back v (c.in-Err.k + 1) small stop.updated (omega arith)) refl
    ∙ refused_sums v c.args.out.now stop.first stop.few

pub returns-then-arriving : goal.returns-then-arriving
unfolding output_after
returns-then-arriving g c =
    let a = c.args.arriving.now in
    let v : Arrival = arrival a c.args.sums.now in
    let whole = c.in_default.ensures.complete in
    let d = rw a.delay_is at c.if-arriving.true in
    same_leaves refl whole.updated (rw (lt-ltb _ _ d) refl)
    ∙ taken_in v c.args.out.now (all_of v.table.count _ whole.good) (not_due v d)

pub returns-then-not-write : goal.returns-then-not-write
returns-then-not-write g c =
    let a = c.args.arriving.now in
    let v : Arrival = arrival a c.args.sums.now in
    let small : (i : ℕ) → get_or c.args.sums.now i 0 < 4294967296 = search rules in
    let whole = c.in_default.ensures.complete in
    let due : delay_of v.table ≤ v.number = rw a.delay_is at c.if-arriving.false in
    let written = c.write.ensures c.args.sums.now whole.good c.in_default.ensures.held in
    let surely : c.args.sure ≡ true → due_good v ≡ true = λ s. surely_due v a.table_good whole.good (c.requires.surely s) in
    let back = all_back v v.table.count small (whole.updated ∙ sym (all_updated v a.table_good whole.good)) c.requires.sums_long in
    ap (λ s. leaves s a.samples.now c.roll_back_first-then-not-write.new.sums c.write.new.out) c.carried-then-not-write.ensures
    ∙ same_leaves refl (c.roll_back_first-then-not-write.ensures ∙ back) (written.refused c.if-not-write.true)
    ∙ refused_due v c.args.out.now (all_of v.table.count _ whole.good)
    (sym (answered v due c.args.sure surely written.answer) ∙ c.if-not-write.true)

pub returns : goal.returns
unfolding output_after
returns g c =
    let a = c.args.arriving.now in
    let v : Arrival = arrival a c.args.sums.now in
    let whole = c.in_default.ensures.complete in
    let due : delay_of v.table ≤ v.number = rw a.delay_is at c.if-arriving.false in
    let written = c.write.ensures c.args.sums.now whole.good c.in_default.ensures.held in
    let surely : c.args.sure ≡ true → due_good v ≡ true = λ s. surely_due v a.table_good whole.good (c.requires.surely s) in
    let yes = c.if-not-write.false in
    same_leaves refl whole.updated (rw (le-ltb _ _ due) (written.accepted yes))
    ∙ taken_in v c.args.out.now (all_of v.table.count _ whole.good) (sym (answered v due c.args.sure surely written.answer) ∙ yes)
