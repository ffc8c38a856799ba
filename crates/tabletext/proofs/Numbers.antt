-- What a table's text is refused with.
-- Assumes nothing.
use Rattle.std.proofs.Common.{ℕ, zero, suc, ◌+◌, ◌-◌, ◌≤◌, arith, ◌≡◌, subst, Bool, true, false, cond, List, [], ◌∷◌, ◌++◌, T, leb, ltb, eqb, length, get_or}
use Rattle.layout.specs.Contents.{Contents}
use Rattle.layout.specs.Answers.{Question, asks, first_no}
use Rattle.limits.specs.Limits.{value_good}
use Rattle.table.specs.Format.{refused, loaded}
use Rattle.words.specs.Words.{same, lines_of}
use Rattle.forms.specs.Forms.{names, place_in, kind_of, form, fits, asks_at, weight_good, line_asks}
use Rattle.making.specs.Making.{Line, lines_with, contents_of, lines_ask, once_asks, all_once, numbers_ask, rect_asks, rects_ask, head_asks, tail_asks, make_asks, make_of}
use Rattle.tabletext.specs.Numbers.{among, make_numbers}

-- the number of each question is one of these
abbrev Numbered : List Question → Type 0
Numbered [] = Unit {0}
Numbered (q ∷ qs) = T (among q.number make_numbers) × Numbered qs

numbered_append : (ps qs : List Question) → Numbered ps → Numbered qs → Numbered (ps ++ qs)
numbered_append [] qs p q = q
numbered_append (x ∷ ps) qs p q = (p.0, numbered_append ps qs p.1 q)

first_number : (qs : List Question) (c : Contents) (n p : ℕ) → Numbered qs → first_no qs refused (loaded c) ≡ refused n p → T (among n make_numbers)
first_number [] c n p h e = absurd (let z : ◌≡◌ {A = ℕ} 1 0 = cc in omega arith)
first_number (q ∷ qs) c n p h e = go q.holds (first_number qs c n p h.1) e
  where
    go : (b : Bool) → (first_no qs refused (loaded c) ≡ refused n p → T (among n make_numbers))
        → cond b (first_no qs refused (loaded c)) (refused q.number q.place) ≡ refused n p → T (among n make_numbers)
    go true ih e = ih e
    go false ih e = let z : q.number ≡ n = cc in subst (λ m. T (among m make_numbers)) z h.0

-- the kind of a line is at most 5
place_most : (ns : List (List ℕ)) (word : List ℕ) → place_in ns word ≤ length ns
unfolding place_in
place_most [] word = omega arith
place_most (name ∷ ns) word = go (same word name) (place_most ns word)
  where
    go : (b : Bool) → place_in ns word ≤ length ns → cond b 0 (suc (place_in ns word)) ≤ suc (length ns)
    go true h = omega arith
    go false h = omega arith

kind_most : (words : List (List ℕ)) → kind_of words ≤ 5
unfolding kind_of names
kind_most words = place_most names (get_or words 0 [])

form_number : (k : ℕ) → k ≤ 5 → T (among (102 + k) make_numbers)
unfolding among make_numbers
form_number zero h = tt
form_number (suc zero) h = tt
form_number (suc (suc zero)) h = tt
form_number (suc (suc (suc zero))) h = tt
form_number (suc (suc (suc (suc zero)))) h = tt
form_number (suc (suc (suc (suc (suc zero))))) h = tt
form_number (suc (suc (suc (suc (suc (suc k)))))) h = absurd (omega arith)

some_numbers : (b : Bool) (qs : List Question) → Numbered qs → Numbered (cond b [] qs)
some_numbers true qs h = tt
some_numbers false qs h = h

line_numbers : (place : ℕ) (words : List (List ℕ)) → Numbered (line_asks place words)
unfolding line_asks among make_numbers
line_numbers place words =
    some_numbers (eqb (length words) 0)
    (asks_at place 101 (ltb (kind_of words) 5) ∷ asks_at place (102 + kind_of words) (fits (form (kind_of words)) words)
    ∷ asks_at place 107 (weight_good words) ∷ [])
    (tt, (form_number (kind_of words) (kind_most words), (tt, tt)))

lines_numbers : (place : ℕ) (lines : List (List (List ℕ))) → Numbered (lines_ask place lines)
unfolding lines_ask
lines_numbers place [] = tt
lines_numbers place (words ∷ lines) =
    numbered_append (line_asks place words) (lines_ask (suc place) lines) (line_numbers place words) (lines_numbers (suc place) lines)

rects_numbers : (left : ℕ) (ls : List Line) → Numbered (rects_ask left ls)
unfolding rects_ask rect_asks among make_numbers
rects_numbers left [] = tt
rects_numbers left (l ∷ ls) = (tt, (tt, rects_numbers (left - 1) ls))

once_numbers : (text : List ℕ) → Numbered (all_once text)
unfolding all_once once_asks among make_numbers
once_numbers text = (tt, (tt, (tt, (tt, (tt, (tt, (tt, (tt, tt))))))))

head_numbers : (text : List ℕ) (c : Contents) → Numbered (numbers_ask text c)
unfolding numbers_ask among make_numbers
head_numbers text c = (tt, (tt, (tt, tt)))

text_number : T (among 113 make_numbers)
unfolding among make_numbers
text_number = tt

nine : (x : Bool) → Numbered (asks 9 x ∷ [])
unfolding among make_numbers
nine x = (tt, tt)

ten : (x : Bool) → Numbered (asks 10 x ∷ [])
unfolding among make_numbers
ten x = (tt, tt)

pub make_number : (text : List ℕ) (n p : ℕ) → make_of text ≡ refused n p → T (among n make_numbers)
unfolding head_asks tail_asks make_of make_asks
make_number text n p e =
    let ls = lines_with 4 text in
    let c = contents_of text in
    let lines = lines_ask 1 (lines_of text) in
    let some = asks 9 (leb 1 (length ls)) ∷ [] in
    let last = asks 10 (value_good c) ∷ [] in
    let head = numbered_append lines (all_once text ++ numbers_ask text c) (lines_numbers 1 (lines_of text))
    (numbered_append (all_once text) (numbers_ask text c) (once_numbers text) (head_numbers text c)) in
    let tail = numbered_append (rects_ask 16 ls) some (rects_numbers 16 ls) (nine (leb 1 (length ls))) in
    first_number (make_asks text) c n p
    (text_number, numbered_append (head_asks text) (tail_asks text ++ last) head (numbered_append (tail_asks text) last tail (ten (value_good c)))) e
