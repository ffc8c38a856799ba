-- Loading looks no further than a mark past the longest table.
-- Assumes nothing.
use Rattle.std.proofs.Common.{ℕ, zero, suc, ◌+◌, ◌-◌, ◌*◌, ◌≤◌, ◌<◌, arith, ◌≡◌, refl, sym, ap, ◌∙◌, List, [], ◌∷◌, leb, eqb, length, take, drop, get_or-take}
use Rattle.std.proofs.Math.Dec.{leb-zero, leb-suc-suc, eqb-suc-zero}
use Rattle.std.proofs.Math.Seq.{take-nil}
use Rattle.layout.specs.Contents.{Contents}
use Rattle.layout.specs.Answers.{asks, first_no}
use Rattle.limits.specs.Limits.{head_asks}
use Rattle.table.specs.Format.{refused, marked, head_of, rect_of, plus, header_asks, field_asks, further, fields_of, parse_of, fit_of, load_of}

-- whether there are m bytes, seen in the first n
leb-length-take : (m n : ℕ) (bs : List ℕ) → m ≤ n → leb m (length (take n bs)) ≡ leb m (length bs)
leb-length-take zero n bs h = leb-zero (length (take n bs)) ∙ sym (leb-zero (length bs))
leb-length-take (suc m) zero bs h = absurd (omega arith)
leb-length-take (suc m) (suc n) [] h = refl
leb-length-take (suc m) (suc n) (x ∷ bs) h =
    leb-suc-suc m (length (take n bs)) ∙ leb-length-take m n bs (omega arith) ∙ sym (leb-suc-suc m (length bs))

-- whether there is a byte
eqb-length-take : (n : ℕ) (bs : List ℕ) → 0 < n → eqb (length (take n bs)) 0 ≡ eqb (length bs) 0
eqb-length-take zero bs h = absurd (omega arith)
eqb-length-take (suc n) [] h = refl
eqb-length-take (suc n) (x ∷ bs) h = eqb-suc-zero (length (take n bs)) ∙ sym (eqb-suc-zero (length bs))

-- the rest of the first n bytes is the first of the rest
drop-take : (m n : ℕ) (bs : List ℕ) → m ≤ n → drop m (take n bs) ≡ take (n - m) (drop m bs)
drop-take zero n bs h = let e : n ≡ n - 0 = omega arith in ap (λ k. take k bs) e
drop-take (suc m) zero bs h = absurd (omega arith)
drop-take (suc m) (suc n) [] h = sym (take-nil (suc n - suc m))
drop-take (suc m) (suc n) (x ∷ bs) h =
    let e : n - m ≡ suc n - suc m = omega arith in
    drop-take m n bs (omega arith) ∙ ap (λ k. take k (drop m bs)) e

-- a mark, seen in the first n bytes
marked-take : (tag n : ℕ) (bs : List ℕ) → 3 ≤ n → marked tag (take n bs) ≡ marked tag bs
unfolding marked
marked-take tag n bs h =
    rw (leb-length-take 3 n bs h, get_or-take n bs 0 0 (omega arith), get_or-take n bs 1 0 (omega arith), get_or-take n bs 2 0 (omega arith))

-- the parts of a field, seen in the first n bytes
module _ (n : ℕ) (bs : List ℕ) (h : 9 ≤ n) where
  head_take : head_of (take n bs) ≡ head_of bs
  head_take =
      rw (
        get_or-take n bs 3 0 (omega arith),
        get_or-take n bs 4 0 (omega arith),
        get_or-take n bs 5 0 (omega arith),
        get_or-take n bs 6 0 (omega arith),
        get_or-take n bs 7 0 (omega arith),
        get_or-take n bs 8 0 (omega arith),
      )

  rect_take : rect_of (take n bs) ≡ rect_of bs
  rect_take =
      rw (
        get_or-take n bs 3 0 (omega arith),
        get_or-take n bs 4 0 (omega arith),
        get_or-take n bs 5 0 (omega arith),
        get_or-take n bs 6 0 (omega arith),
        get_or-take n bs 7 0 (omega arith),
        get_or-take n bs 8 0 (omega arith),
      )

  header_take : header_asks (take n bs) ≡ header_asks bs
  unfolding header_asks
  header_take =
      rw (marked-take 1 n bs (omega arith), leb-length-take 9 n bs h)
      (ap (λ c. asks 1 (marked 1 bs) ∷ asks 2 (leb 9 (length bs)) ∷ head_asks c.b c.q1 c.q2 c.q3 c.t c.w) head_take)

  field_take : (left : ℕ) → field_asks left (take n bs) ≡ field_asks left bs
  unfolding field_asks
  field_take left = rw (marked-take 2 n bs (omega arith), leb-length-take 9 n bs h, rect_take)

-- where no rectangle more may be read, a mark is enough
full_take : (n : ℕ) (bs : List ℕ) (c : Contents) → 3 ≤ n → fields_of 0 (take n bs) c ≡ fields_of 0 bs c
unfolding fields_of field_asks
full_take n bs c h = rw (eqb-length-take n bs (omega arith), marked-take 2 n bs h)

-- where `left` may be read, 9 bytes for each of them and a mark
fields_take : (left n : ℕ) (bs : List ℕ) (c : Contents) → 9 * left + 3 ≤ n → fields_of left (take n bs) c ≡ fields_of left bs c
unfolding fields_of
fields_take zero n bs c h = full_take n bs c (omega arith)
fields_take (suc left) n bs c h =
    let l : 9 ≤ n = omega arith in
    rw (eqb-length-take n bs (omega arith), field_take n bs l (suc left), rect_take n bs l, drop-take 9 n bs l)
    (ap (further (suc left) bs c) (fields_take left (n - 9) (drop 9 bs) (plus c (rect_of bs)) (omega arith)))

parse_take : (n : ℕ) (bs : List ℕ) → 9 + 9 * 16 + 3 ≤ n → parse_of (take n bs) ≡ parse_of bs
unfolding parse_of
parse_take n bs h =
    let l : 9 ≤ n = omega arith in
    rw (header_take n bs l, drop-take 9 n bs l, head_take n bs l)
    (ap (first_no (header_asks bs) refused) (fields_take 16 (n - 9) (drop 9 bs) (head_of bs) (omega arith)))

-- the header's field, 16 more and a mark are enough to load a file
pub load_take : (n : ℕ) (bs : List ℕ) → 9 + 9 * 16 + 3 ≤ n → load_of (take n bs) ≡ load_of bs
unfolding load_of
load_take n bs h = ap fit_of (parse_take n bs h)
