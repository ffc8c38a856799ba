-- The pixels of values of 64 bits where they fit their words, which is asked where it is not sure.
use Rattle.std.proofs.Common.{ℕ, ◌<◌, le_refl, arith, ◌≡◌, sym, ap, subst, ◌∙◌, List, T, ◌++◌, length, get_or, take, drop, get_or-take}
use Rattle.std.proofs.lemmas.List.{length-take-le}
use Rattle.arith.specs.All.{all}
use Rattle.arith.specs.Tab.{tab}
use Rattle.arith.specs.Twos.{fits_signed}
use Rattle.arith.proofs.Alls.{all_at, all_cong}
use Rattle.arith.proofs.Words.{fits_widen}
use Rattle.limits.proofs.Granted.{granted}
use Rattle.passes.specs.Passes.{rounded}
use Rattle.arrival.specs.Arriving.{arrival}
use Rattle.arrival.specs.Arrivals.{Arrival, pixel_at}
use Rattle.arrival.proofs.Written.{tab_by}
use Rattle.engine.specs.Rows.{Summed}
use Rattle.engine.proofs.Biased.{wide_pixel, wide_most}
use Rattle.engine.proofs.Pixels.{sure_pixel}
use Rattle.engine.proofs.Takes.{not_written, written_sure, written}
use Rattle.engine.proofs.values.U64Value.write.Goals.{else-not-sure-via-then-not-sure+else-not-fit_wide, else-not-sure-via-else-not-sure}
use Rattle.engine.proofs.values.U64Value.write.Goals as goal

-- the pixels of the first values are those of the rule
module _ (v : Arrival) {acc : List ℕ} (held : Summed v v.table.count acc) where
  same : (c : ℕ) → c < v.width → rounded (get_or (take v.width acc) c 0) v.table.t ≡ pixel_at v c
  same c l = ap (λ x. rounded x v.table.t) (get_or-take v.width acc c 0 l) ∙ wide_pixel v held c l

  same_fit : all (length (take v.width acc)) (λ c. fits_signed v.table.w (rounded (get_or (take v.width acc) c 0) v.table.t))
      ≡ all v.width (λ c. fits_signed v.table.w (pixel_at v c))
  same_fit =
      ap (λ n. all n (λ c. fits_signed v.table.w (rounded (get_or (take v.width acc) c 0) v.table.t))) (length-take-le v.width acc held.long)
      ∙ all_cong v.width (λ c l. ap (fits_signed v.table.w) (same c l))

pub fit_wide-requires : goal.fit_wide-requires
fit_wide-requires c =
    let a = c.args.arriving.now in
    let g = granted _ a.table_good in
    let r = c.requires.ready in
    let w : ℕ = length a.row.now in
    let m = length-take-le w c.args.values.now r.1.1.long in
    record {
      acc_long = le_refl _;
      shift_most = g.shift_most;
      word_least = g.word_least;
      word_most = g.word_most;
      value_at_most =
          λ k h. let l : k < w = omega arith in
          rw (get_or-take w c.args.values.now k 0 l) (wide_most (arrival a r.0) a.table_good r.1.1 k l);
    }

pub returns-then-not-fit_wide : goal.returns-then-not-fit_wide
returns-then-not-fit_wide c sums good held =
    let a = c.args.arriving.now in
    let v : Arrival = arrival a sums in
    not_written c.args.sure v.width v.table.w (pixel_at v) c.args.out.now c.if-not-sure.true
    (sym (same_fit v held) ∙ sym c.fit_wide.ensures ∙ c.if-not-fit_wide.true)

pub write_wide-requires-clause-values : goal.write_wide-requires-clause-values
write_wide-requires-clause-values c k h =
    let a = c.args.arriving.now in
    let g = granted _ a.table_good in
    let r = c.requires.ready in
    let v : Arrival = arrival a r.0 in
    let m = length-take-le v.width c.args.out.now c.requires.lent in
    let n = length-take-le v.width c.args.values.now r.1.1.long in
    let inside : k < v.width = omega arith in
    let fits : T (fits_signed v.table.w (rounded (get_or (take v.width c.args.values.now) k 0) v.table.t)) =
    elim c.else-not-sure.branch [
      | else-not-sure-via-then-not-sure+else-not-fit_wide w ↦
          all_at (length (take v.width c.args.values.now)) (λ c'. fits_signed v.table.w (rounded (get_or (take v.width c.args.values.now) c' 0) v.table.t))
          (subst T (sym w.if-not-fit_wide.false ∙ w.fit_wide.ensures) tt) k (omega arith)
      | else-not-sure-via-else-not-sure w ↦
          rw (same v r.1.1 k inside) (sure_pixel v a.table_good r.1.0 (c.requires.surely w.if-not-sure.false) k)
    ] in
    record {
      value_at_most = rw (get_or-take v.width c.args.values.now k 0 inside) (wide_most v a.table_good r.1.1 k inside);
      in_word = fits_widen v.table.w 32 _ g.word_most fits;
    }

pub returns : goal.returns
returns c sums good held =
    let a = c.args.arriving.now in
    let v : Arrival = arrival a sums in
    let pixels : c.write_wide.new.out ≡ tab v.width (pixel_at v) =
    tab_by c.write_wide.ensures (length-take-le v.width c.args.out.now c.requires.lent) (same v held) in
    let is = ap (λ xs. xs ++ drop v.width c.args.out.now) pixels in
    elim c.else-not-sure.branch [
      | else-not-sure-via-then-not-sure+else-not-fit_wide w ↦
          written c.args.sure v.width v.table.w (pixel_at v) c.args.out.now (sym (same_fit v held) ∙ sym w.fit_wide.ensures ∙ w.if-not-fit_wide.false) is
      | else-not-sure-via-else-not-sure w ↦ written_sure c.args.sure v.width v.table.w (pixel_at v) c.args.out.now w.if-not-sure.false is
    ]
