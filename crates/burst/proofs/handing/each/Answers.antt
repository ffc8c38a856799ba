-- The rows are given one by one: what is left to give from here comes to the whole (`Rest`), and each turn gives one row more.
use Rattle.layout.specs.Answers.{Said, said, left}
use Rattle.machine.specs.Calls.{due_is, said_by}
use Rattle.scan.specs.Calls.{World, world, row_of}
use Rattle.burst.specs.Bursts.{Progress, progress, is_refused, next_left, counted}
use Rattle.arith.proofs.Parts.{part_is, part_long, part_back}
use Rattle.burst.proofs.Rests.{Rest, all_fed, place_room, ends, goes_on, row_refused, err_refused}
use Prim.Native.Nat.{ℕ, ◌+◌, ◌-◌, ◌*◌, ◌≤◌, ◌<◌}
use mathlib.Core.Path.{◌≡◌, refl, sym, ap, ap₂, subst, ◌∙◌}
use mathlib.Core.Bool.{false}
use mathlib.Core.List.{List}
use lib.IntN.{ℤ}
use lib.ListN.{length}
use borrow.Rule.Slice.PartMut.{put_mid, same_len_mid}
use Rattle.burst.proofs.handing.each.Invariants.{part_way, fed}
use Rattle.burst.proofs.handing.each.Goals as goal

same-progress : {s s' : Said} {w w' : World} {out out' : List ℤ} {taken taken' filtered filtered' : ℕ} → s ≡ s' → w ≡ w' → out ≡ out' → taken ≡ taken' → filtered ≡ filtered'
    → progress s w out taken filtered ≡ progress s' w' out' taken' filtered'
same-progress a b c d e = rw (a, b, c, d, e) refl

pub returns-then-is_err : goal.returns-then-is_err
returns-then-is_err c =
    let l : ℕ = c.args.s.width in
    let here : Progress World = part_way c.loop-b.b c.loop-b.samples c.loop-b.sums c.loop-b.out in
    let given : List ℕ = c.args.rows.now in
    let kept-samples : List ℕ = c.take_row-one.new.samples in
    let kept-sums : List ℕ = c.take_row-one.new.sums in
    let to : ℕ = c.loop-b.b.filtered * l in
    let part : List ℤ = c.take_row-one.new.out in
    let kept_out : List ℤ = put_mid to (to + l - to) c.loop-b.out part in
    let whole : Progress World = fed l c.args.n given (world c.begun-b.result.scan c.args.samples.now c.args.sums.now) c.args.out.now in
    let remains : Rest l c.args.n given whole here = c.loop-b.invariant.3 in
    let fewer : c.loop-b.b.taken < c.args.n = c.loop-b-test.true in
    let room : to + l ≤ length c.loop-b.out = place_room l c.args.n given whole here remains fewer in
    let long : length part ≡ l = c.take_row-one.auto.out ∙ ap length (part_is to l c.loop-b.out) ∙ part_long to l c.loop-b.out room in
    let at : ℕ = c.loop-b.b.taken * l in
    let answered : left (said_by due_is c.take_row-one.result.row) (world c.take_row-one.result.scan kept-samples kept-sums) part ≡ next_left row_of l here given = c.take_row-one.ensures ∙ ap₂ (row_of here.state) (part_is at l given) (part_is to l c.loop-b.out) in
    let stands : part_way c.count-b.result (kept-samples) (kept-sums) (kept_out) ≡ counted (l) (here) (next_left row_of (l) (here) (given)) = let e = c.count-b.ensures in
    same-progress e.verdict_value.0 (ap (λ s. world s (kept-samples) (kept-sums)) e.verdict_value.1) (part_back (to) (l) c.loop-b.out (part) (long)) e.taken_value e.filtered_value
    ∙ ap (counted (l) (here)) (answered) in
    let refused-so : is_refused (said c.count-b.result.verdict) ≡ is_refused (next_left row_of (l) (here) (given)).said = ap (λ p. is_refused p.said) stands ∙ row_refused (next_left row_of (l) (here) (given)).said in
    let starts : fed c.args.s.width c.args.n c.args.rows.now (world c.begun-b.result.scan c.args.samples.now c.args.sums.now) c.args.out.now ≡ fed c.args.s.width c.args.n c.args.rows.now (world c.args.s c.args.samples.now c.args.sums.now) c.args.out.now = ap (λ x. fed c.args.s.width c.args.n c.args.rows.now (world x c.args.samples.now c.args.sums.now) c.args.out.now) c.begun-b.ensures.3 in
    let e = sym (refused-so) ∙ sym (c.is_err.ensures.value ∙ err_refused _) ∙ c.if-is_err.true in
    stands ∙ ends _ _ _ _ _ (remains) (fewer) e ∙ starts

pub loop-b-preserved : goal.loop-b-preserved
loop-b-preserved c =
    let l : ℕ = c.args.s.width in
    let to : ℕ = c.loop-b.b.filtered * l in
    let part : List ℤ = c.take_row-one.new.out in
    let kept_out : List ℤ = put_mid to (to + l - to) c.loop-b.out part in
    let same_out : length kept_out ≡ length c.loop-b.out = same_len_mid to (to + l - to) c.loop-b.out part c.take_row-one.auto.out in
    let given : List ℕ = c.args.rows.now in
    let whole : Progress World = fed l c.args.n given (world c.begun-b.result.scan c.args.samples.now c.args.sums.now) c.args.out.now in
    let kept-samples : List ℕ = c.take_row-one.new.samples in
    let kept-sums : List ℕ = c.take_row-one.new.sums in
    let here : Progress World = part_way c.loop-b.b c.loop-b.samples c.loop-b.sums c.loop-b.out in
    let remains : Rest l c.args.n given whole here = c.loop-b.invariant.3 in
    let fewer : c.loop-b.b.taken < c.args.n = c.loop-b-test.true in
    let room : to + l ≤ length c.loop-b.out = place_room l c.args.n given whole here remains fewer in
    let long : length part ≡ l = c.take_row-one.auto.out ∙ ap length (part_is to l c.loop-b.out) ∙ part_long to l c.loop-b.out room in
    let at : ℕ = c.loop-b.b.taken * l in
    let answered : left (said_by due_is c.take_row-one.result.row) (world c.take_row-one.result.scan kept-samples kept-sums) part ≡ next_left row_of l here given = c.take_row-one.ensures ∙ ap₂ (row_of here.state) (part_is at l given) (part_is to l c.loop-b.out) in
    let stands : part_way c.count-b.result (kept-samples) (kept-sums) (kept_out) ≡ counted (l) (here) (next_left row_of (l) (here) (given)) = let e = c.count-b.ensures in
    same-progress e.verdict_value.0 (ap (λ s. world s (kept-samples) (kept-sums)) e.verdict_value.1) (part_back (to) (l) c.loop-b.out (part) (long)) e.taken_value e.filtered_value
    ∙ ap (counted (l) (here)) (answered) in
    let refused-so : is_refused (said c.count-b.result.verdict) ≡ is_refused (next_left row_of (l) (here) (given)).said = ap (λ p. is_refused p.said) stands ∙ row_refused (next_left row_of (l) (here) (given)).said in
    let not-refused : is_refused (next_left row_of (l) (here) (given)).said ≡ false = sym (refused-so) ∙ sym (c.is_err.ensures.value ∙ err_refused _) ∙ c.if-is_err.false in
    let i = c.loop-b.invariant in (
      c.take_row-one.auto.samples ∙ i.0,
      c.take_row-one.auto.sums ∙ i.1,
      same_out ∙ i.2,
      subst (Rest (l) c.args.n (given) (whole)) (sym (stands))
          (goes_on _ _ _ _ _ (remains) (fewer) (not-refused) (ap (λ p. length p.out) (sym (stands)) ∙ same_out)),
    )

pub returns : goal.returns
returns c =
    let starts : fed c.args.s.width c.args.n c.args.rows.now (world c.begun-b.result.scan c.args.samples.now c.args.sums.now) c.args.out.now ≡ fed c.args.s.width c.args.n c.args.rows.now (world c.args.s c.args.samples.now c.args.sums.now) c.args.out.now = ap (λ x. fed c.args.s.width c.args.n c.args.rows.now (world x c.args.samples.now c.args.sums.now) c.args.out.now) c.begun-b.ensures.3 in
    all_fed _ _ _ _ _ c.loop-b.invariant.3 c.loop-b-test.false ∙ starts
