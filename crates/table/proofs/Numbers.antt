-- The numbers of loading's refusals: from 1 to 10, each at place 0.
-- Assumes nothing.
use Rattle.std.proofs.Common.{ℕ, zero, suc, ◌≤◌, ◌≡◌, Bool, true, false, cond, ◌&&◌, List, [], ◌∷◌, T, eqb, leb, leb→le, eqb→eq, length, drop}
use Rattle.std.proofs.Math.Facts.{and_yes}
use Rattle.layout.specs.Contents.{Contents}
use Rattle.layout.specs.Answers.{Question, asks, first_no}
use Rattle.limits.specs.Limits.{head_asks, value_good}
use Rattle.table.specs.Format.{Outcome, refused, loaded, rect_of, plus, header_asks, field_asks, at_end, fields_of, parse_of, fit_of, load_of}

pub record Number (n p : ℕ) : Type 0 where
  pub least : 1 ≤ n
  pub most : n ≤ 10
  pub place : p ≡ 0

-- every question has such a number and place
abbrev numbered : List Question → Bool
numbered [] = true
numbered (q ∷ qs) = (leb 1 q.number && (leb q.number 10 && eqb q.place 0)) && numbered qs

pub data Outcomes : Outcome → Type 0 where
  loads : {c : Contents} → Outcomes (loaded c)
  fails : {n p : ℕ} → Number n p → Outcomes (refused n p)

chosen : (b : Bool) (x y : Outcome) → Outcomes x → Outcomes y → Outcomes (cond b x y)
chosen true x y p q = p
chosen false x y p q = q

followed : (qs : List Question) (next : Outcome) → T (numbered qs) → Outcomes next → Outcomes (first_no qs refused next)
followed [] next n o = o
followed (q ∷ qs) next n o =
    let a = and_yes (leb 1 q.number && (leb q.number 10 && eqb q.place 0)) (numbered qs) n in
    let b = and_yes (leb 1 q.number) (leb q.number 10 && eqb q.place 0) a.0 in
    let c = and_yes (leb q.number 10) (eqb q.place 0) b.1 in
    chosen q.holds _ _ (followed qs next a.1 o)
    (fails (record { least = leb→le _ _ b.0; most = leb→le _ _ c.0; place = eqb→eq _ _ c.1 }))

header_numbers : (bs : List ℕ) → T (numbered (header_asks bs))
unfolding header_asks head_asks
header_numbers bs = tt

field_numbers : (left : ℕ) (bs : List ℕ) → T (numbered (field_asks left bs))
unfolding field_asks
field_numbers left bs = tt

end_numbers : (c : Contents) → Outcomes (at_end c)
end_numbers c = followed (asks 9 (leb 1 (length c.rects)) ∷ []) (loaded c) tt loads

fields_numbers : (left : ℕ) (bs : List ℕ) (c : Contents) → Outcomes (fields_of left bs c)
unfolding fields_of
fields_numbers zero bs c =
    chosen (eqb (length bs) 0) _ _ (end_numbers c) (followed (field_asks zero bs) _ (field_numbers zero bs) (end_numbers c))
fields_numbers (suc left) bs c =
    chosen (eqb (length bs) 0) _ _ (end_numbers c)
    (followed (field_asks (suc left) bs) _ (field_numbers (suc left) bs) (fields_numbers left (drop 9 bs) (plus c (rect_of bs))))

fit_numbers : (o : Outcome) → Outcomes o → Outcomes (fit_of o)
fit_numbers (refused n p) h = h
fit_numbers (loaded c) h = followed (asks 10 (value_good c) ∷ []) (loaded c) tt loads

pub load_numbers : (bs : List ℕ) → Outcomes (load_of bs)
unfolding load_of parse_of
load_numbers bs = fit_numbers _ (followed (header_asks bs) _ (header_numbers bs) (fields_numbers 16 (drop 9 bs) _))

pub number_of : {n p : ℕ} → Outcomes (refused n p) → Number n p
number_of (fails h) = h
