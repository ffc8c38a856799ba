-- How long the text of a table is.
-- Assumes nothing.
use Rattle.std.proofs.Common.{ℕ, ◌+◌, ◌*◌, ◌≤◌, arith, List, [], ◌∷◌, ◌++◌, length, length-append, ℤ}
use Rattle.layout.specs.declared.Rect.{Rect}
use Rattle.layout.specs.Contents.{Contents}
use Rattle.text.specs.Text.{cell, signed_cell}
use Rattle.text.specs.Ascii.{ascii}
use Rattle.text.proofs.Cells.{cell-length, signed_length}
use Rattle.refusals.specs.Sentences.{refusal_text}
use Rattle.refusals.proofs.Widths.{words_short}
use Rattle.showing.specs.Showing.{number_line, drops_line, pair, rect_line, rect_lines, head_lines, text_of, remark}

number_length : (word : List ℕ) (n : ℕ) → length (number_line word n) ≤ length word + 21
unfolding number_line
number_length word n = let a = length-append word (cell n 10) in let b = cell-length n 10 in omega arith

drops_length : (q1 q2 q3 : ℕ) → length (drops_line q1 q2 q3) ≤ 69
unfolding ascii drops_line
drops_length q1 q2 q3 =
    let a = length-append ((ascii "drops " ++ cell q1 32) ++ cell q2 32) (cell q3 10) in
    let b = length-append (ascii "drops " ++ cell q1 32) (cell q2 32) in
    let c = length-append (ascii "drops ") (cell q1 32) in
    let x = cell-length q1 32 in
    let y = cell-length q2 32 in
    let z = cell-length q3 10 in
    omega arith

pair-length : (word : List ℕ) (a b : ℤ) → length (pair word a b) ≤ length word + 44
unfolding pair
pair-length word a b =
    let x = length-append (word ++ signed_cell a 32) (signed_cell b 32) in
    let y = length-append word (signed_cell a 32) in
    let u = signed_length a 32 in
    let v = signed_length b 32 in
    omega arith

rect_length : (r : Rect) → length (rect_line r) ≤ 138
unfolding ascii rect_line
rect_length r =
    let lead = pair (ascii "rectangle lead ") r.leadrow r.leadcol in
    let trail = pair (ascii "trail ") r.trailrow r.trailcol in
    let a = length-append (lead ++ trail) (ascii "weight " ++ signed_cell r.weight 10) in
    let b = length-append lead trail in
    let c = length-append (ascii "weight ") (signed_cell r.weight 10) in
    let x = pair-length (ascii "rectangle lead ") r.leadrow r.leadcol in
    let y = pair-length (ascii "trail ") r.trailrow r.trailcol in
    let z = signed_length r.weight 10 in
    omega arith

rects_length : (rs : List Rect) → length (rect_lines rs) ≤ 138 * length rs
unfolding rect_lines
rects_length [] = omega arith
rects_length (r ∷ rs) =
    let a = length-append (rect_line r) (rect_lines rs) in
    let x = rect_length r in
    let y = rects_length rs in
    omega arith

pub text_length : (c : Contents) → length (text_of c) ≤ 148 + 138 * length c.rects
unfolding ascii head_lines text_of
text_length c =
    let one = number_line (ascii "bits ") c.b in
    let two = drops_line c.q1 c.q2 c.q3 in
    let three = number_line (ascii "shift ") c.t in
    let four = number_line (ascii "word ") c.w in
    let a = length-append (((one ++ two) ++ three) ++ four) (rect_lines c.rects) in
    let b = length-append ((one ++ two) ++ three) four in
    let d = length-append (one ++ two) three in
    let e = length-append one two in
    let x = number_length (ascii "bits ") c.b in
    let y = drops_length c.q1 c.q2 c.q3 in
    let z = number_length (ascii "shift ") c.t in
    let w = number_length (ascii "word ") c.w in
    let r = rects_length c.rects in
    omega arith

pub remark-length : length remark ≤ 116
unfolding ascii remark
remark-length =
    let a = length-append (ascii "# refused, 10: " ++ refusal_text 10) (10 ∷ []) in
    let b = length-append (ascii "# refused, 10: ") (refusal_text 10) in
    let w = words_short 10 in
    omega arith
