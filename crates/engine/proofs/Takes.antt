-- What question 19 makes of an arrival: refused at a rectangle, refused at the row that is due, or taken in.
-- Assumes nothing.
use Rattle.std.proofs.Common.{ℕ, ◌<◌, ◌≡◌, refl, sym, ap, subst, ◌∙◌, arith, Bool, true, false, cond, List, [], ◌++◌, T, ℤ, drop}
use Rattle.arith.specs.All.{all}
use Rattle.arith.specs.First.{first_not}
use Rattle.arith.specs.Tab.{tab}
use Rattle.arith.specs.Twos.{fits_signed}
use Rattle.arith.proofs.Bools.{true_of, or-true}
use Rattle.arith.proofs.Firsts.{first_below}
use Rattle.layout.specs.Answers.{Said, refused, accepted}
use Rattle.arrival.specs.Arrivals.{Arrival, sum_good, due_good, arrival_asks, samples_after, sums_after, output_after, Leaves, leaves, arrive_of}
use Rattle.engine.specs.Rows.{take_of, Written}

pub same_leaves : {v : Said} {samples samples' sums sums' : List ℕ} {out out' : List ℤ} → samples ≡ samples' → sums ≡ sums' → out ≡ out'
    → leaves v samples sums out ≡ leaves v samples' sums' out'
same_leaves e f g = rw (e, f, g) refl

module _ (v : Arrival) (out : List ℤ) where
  -- question 19 of rectangle k
  abbrev asked : ℕ → Bool
  asked k = all v.width (sum_good v k)

  pub refused_sums : {failed : ℕ} → failed ≡ first_not v.table.count asked → failed < v.table.count
      → leaves (refused 19 failed) v.samples v.sums out ≡ take_of v out
  unfolding take_of arrival_asks
  refused_sums e h = rw (first_below v.table.count asked (subst (λ n. n < v.table.count) e h), sym e) refl

  pub refused_due : T (all v.table.count asked) → due_good v ≡ false
      → leaves (refused 19 v.table.count) v.samples v.sums out ≡ take_of v out
  unfolding take_of arrival_asks
  refused_due g e = rw (true_of (all v.table.count asked) g, e) refl

  pub taken_in : T (all v.table.count asked) → due_good v ≡ true → leaves (accepted []) v.samples (sums_after v) (output_after v out) ≡ take_of v out
  unfolding take_of arrival_asks
  taken_in g e = rw (true_of (all v.table.count asked) g, e) refl

  -- refused, all is as it was
  abbrev refusal : (number place : ℕ) → Leaves
  refusal number place = leaves (refused number place) v.samples v.sums out

  -- with the row kept where it is accepted, it is the whole arrival
  module _ {samples sums : List ℕ} {out' : List ℤ} where
    pub arrival_refused : {r : Said} {n p : ℕ} → r ≡ refused n p → leaves r samples sums out' ≡ take_of v out
        → leaves (refused n p) samples sums out' ≡ arrive_of v out
    unfolding take_of arrive_of arrival_asks
    arrival_refused {r} {n} {p} is e = go (all v.table.count asked) (due_good v) (ap (λ r. leaves r samples sums out') (sym is) ∙ e)
      where
        go : (x y : Bool)
            → leaves (refused n p) samples sums out'
            ≡ cond x (cond y (leaves (accepted []) v.samples (sums_after v) (output_after v out)) (refusal 19 v.table.count))
            (refusal 19 (first_not v.table.count asked))
            → leaves (refused n p) samples sums out'
            ≡ cond x (cond y (leaves (accepted []) (samples_after v) (sums_after v) (output_after v out)) (refusal 19 v.table.count))
            (refusal 19 (first_not v.table.count asked))
        go true true e = absurd (let z = ap (λ l. l.said.kind) e in omega arith)
        go true false e = e
        go false y e = e

    pub arrival_accepted : {r : Said} → r ≡ accepted [] → leaves r samples sums out' ≡ take_of v out
        → leaves (accepted []) (samples_after v) sums out' ≡ arrive_of v out
    unfolding take_of arrive_of arrival_asks
    arrival_accepted is e = go (all v.table.count asked) (due_good v) (ap (λ r. leaves r samples sums out') (sym is) ∙ e)
      where
        go : (x y : Bool)
            → leaves (accepted []) samples sums out'
            ≡ cond x (cond y (leaves (accepted []) v.samples (sums_after v) (output_after v out)) (refusal 19 v.table.count))
            (refusal 19 (first_not v.table.count asked))
            → leaves (accepted []) (samples_after v) sums out'
            ≡ cond x (cond y (leaves (accepted []) (samples_after v) (sums_after v) (output_after v out)) (refusal 19 v.table.count))
            (refusal 19 (first_not v.table.count asked))
        go true true e = same_leaves refl (ap (λ l. l.sums) e) (ap (λ l. l.out) e)
        go true false e = absurd (let z = ap (λ l. l.said.kind) e in omega arith)
        go false y e = absurd (let z = ap (λ l. l.said.kind) e in omega arith)

-- ---- the row that is due, by the pixels of an accumulator

module _ (sure : Bool) (width word : ℕ) (pixel : ℕ → ℤ) (out : List ℤ) where
  abbrev fit : Bool
  fit = all width (λ c. fits_signed word (pixel c))

  pub not_written : sure ≡ false → fit ≡ false → Written sure width word pixel false out out
  not_written s f = record { answer = rw (s, f) refl; accepted = λ e. absurd (subst T (sym e) tt); refused = λ e. refl }

  pub written_sure : sure ≡ true → {out' : List ℤ} → out' ≡ tab width pixel ++ drop width out → Written sure width word pixel true out out'
  written_sure s is = record { answer = rw s refl; accepted = λ e. is; refused = λ e. absurd (subst T e tt) }

  pub written : fit ≡ true → {out' : List ℤ} → out' ≡ tab width pixel ++ drop width out → Written sure width word pixel true out out'
  written f is = record { answer = rw f (sym (or-true sure)); accepted = λ e. is; refused = λ e. absurd (subst T e tt) }
