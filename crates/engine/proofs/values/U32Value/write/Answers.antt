-- The pixels of values of 32 bits, or where q3 is 0 of their running sums, from place 16 on where they fit their words, which is asked
-- where it is not sure.
use Rattle.std.proofs.Common.{ℕ, ◌+◌, ◌≤◌, ◌<◌, arith, ◌≡◌, sym, ap, ◌∙◌, true, cond, List, ◌++◌, length, get_or, drop, eqb, eq-eqb, ne_eqb}
use Rattle.std.proofs.lemmas.List.{length-take-le}
use Rattle.arith.specs.All.{all}
use Rattle.arith.specs.Tab.{tab}
use Rattle.arith.specs.Twos.{fits_signed}
use Rattle.arith.proofs.Alls.{all_cong}
use Rattle.arith.proofs.Parts.{part, part_at, part_length}
use Rattle.arith.proofs.Tabs.{get_or-tab}
use Rattle.limits.specs.Limits.{acceptable}
use Rattle.limits.proofs.Granted.{granted}
use Rattle.passes.specs.Passes.{running, rounded_word}
use Rattle.arrival.specs.Arriving.{arrival}
use Rattle.arrival.specs.Arrivals.{Arrival, pixel_at}
use Rattle.arrival.proofs.Written.{tab_by}
use Rattle.engine.specs.Rows.{AllGood, Weighed, narrow_table}
use Rattle.engine.proofs.Shares.{narrow_pixel}
use Rattle.engine.proofs.Takes.{not_written, written_sure, written}
use Rattle.engine.proofs.values.U32Value.write.Goals.{then-t-eq0, else-t-eq0, else-not-sure-via-then-not-sure+else-not-fit_narrow, else-not-sure-via-else-not-sure}
use Rattle.engine.proofs.values.U32Value.write.Goals as goal

-- acc' holds the values by acc
record Holds (width q3 : ℕ) (acc acc' : List ℕ) : Type 0 where
  at : (i : ℕ) → i < width + 16 → get_or acc' i 0 ≡ cond (eqb q3 0) (running acc i) (get_or acc i 0)

module _ (width q3 : ℕ) (acc : List ℕ) {acc' : List ℕ} where
  summed : width + 16 ≤ length acc → q3 ≡ 0 → acc' ≡ tab (length acc) (running acc) → Holds width q3 acc acc'
  summed l z is =
      record {
        at =
            λ i h. ap (λ xs. get_or xs i 0) is ∙ get_or-tab (length acc) (running acc) i 0 (omega arith)
            ∙ sym (ap (λ b. cond b (running acc i) (get_or acc i 0)) (eq-eqb q3 0 z));
      }

  own : (q3 ≡ 0 → ⊥) → acc' ≡ acc → Holds width q3 acc acc'
  own z is =
      record { at = λ i h. ap (λ xs. get_or xs i 0) is ∙ sym (ap (λ b. cond b (running acc i) (get_or acc i 0)) (ne_eqb q3 0 z)) }

-- the pixels of the part from place 16 on are those of the rule
module _
    (v : Arrival) (a : acceptable v.table ≡ true) (n : narrow_table v.table ≡ true) (good : AllGood v) {acc acc' : List ℕ}
    (w : Weighed v v.table.count acc) (h : Holds v.width v.table.q3 acc acc') where
  same : (c : ℕ) → c < v.width → rounded_word (get_or (part 16 v.width acc') c 0) v.table.t ≡ pixel_at v c
  same c l = ap (λ x. rounded_word x v.table.t) (part_at 16 v.width acc' c l ∙ h.at (16 + c) (omega arith)) ∙ narrow_pixel v a n good acc w.value c l

  same_fit : length acc' ≡ length acc
      → all (length (part 16 v.width acc')) (λ c. fits_signed v.table.w (rounded_word (get_or (part 16 v.width acc') c 0) v.table.t))
      ≡ all v.width (λ c. fits_signed v.table.w (pixel_at v c))
  same_fit e =
      let l = w.long in
      ap (λ n. all n (λ c. fits_signed v.table.w (rounded_word (get_or (part 16 v.width acc') c 0) v.table.t))) (part_length 16 v.width acc' (omega arith))
      ∙ all_cong v.width (λ c l. ap (fits_signed v.table.w) (same c l))

pub fit_narrow-requires-clause-shift_most : goal.fit_narrow-requires-clause-shift_most
fit_narrow-requires-clause-shift_most c = (granted _ c.args.arriving.now.table_good).shift_most

pub fit_narrow-requires-clause-word_least : goal.fit_narrow-requires-clause-word_least
fit_narrow-requires-clause-word_least c = (granted _ c.args.arriving.now.table_good).word_least

pub fit_narrow-requires-clause-word_most : goal.fit_narrow-requires-clause-word_most
fit_narrow-requires-clause-word_most c = (granted _ c.args.arriving.now.table_good).word_most

pub write_narrow-requires-clause-shift_most : goal.write_narrow-requires-clause-shift_most
write_narrow-requires-clause-shift_most c = (granted _ c.args.arriving.now.table_good).shift_most

pub returns-then-not-fit_narrow : goal.returns-then-not-fit_narrow
returns-then-not-fit_narrow c sums good held =
    let a = c.args.arriving.now in
    let v : Arrival = arrival a sums in
    let holds : Holds v.width v.table.q3 c.args.values.now c.if-t-eq0.values =
    elim c.if-t-eq0.branch [
      | then-t-eq0 w ↦ summed v.width v.table.q3 c.args.values.now held.long w.if-t-eq0.true (w.values-is ∙ w.running_sums.ensures)
      | else-t-eq0 w ↦ own v.width v.table.q3 c.args.values.now w.if-t-eq0.false w.values-is
    ] in
    not_written c.args.sure v.width v.table.w (pixel_at v) c.args.out.now c.if-not-sure.true
    (sym (same_fit v a.table_good c.requires.fits good held holds c.if-t-eq0.auto.values) ∙ sym c.fit_narrow.ensures ∙ c.if-not-fit_narrow.true)

pub returns : goal.returns
returns c sums good held =
    let a = c.args.arriving.now in
    let v : Arrival = arrival a sums in
    let holds : Holds v.width v.table.q3 c.args.values.now c.if-t-eq0.values =
    elim c.if-t-eq0.branch [
      | then-t-eq0 w ↦ summed v.width v.table.q3 c.args.values.now held.long w.if-t-eq0.true (w.values-is ∙ w.running_sums.ensures)
      | else-t-eq0 w ↦ own v.width v.table.q3 c.args.values.now w.if-t-eq0.false w.values-is
    ] in
    let pixels : c.write_narrow.new.out ≡ tab v.width (pixel_at v) =
    tab_by c.write_narrow.ensures (length-take-le v.width c.args.out.now c.requires.lent) (same v a.table_good c.requires.fits good held holds) in
    let is = ap (λ xs. xs ++ drop v.width c.args.out.now) pixels in
    elim c.else-not-sure.branch [
      | else-not-sure-via-then-not-sure+else-not-fit_narrow w ↦
          written c.args.sure v.width v.table.w (pixel_at v) c.args.out.now
          (sym (same_fit v a.table_good c.requires.fits good held holds c.if-t-eq0.auto.values) ∙ sym w.fit_narrow.ensures ∙ w.if-not-fit_narrow.false) is
      | else-not-sure-via-else-not-sure w ↦ written_sure c.args.sure v.width v.table.w (pixel_at v) c.args.out.now w.if-not-sure.false is
    ]
