-- What is promised of a table as text. `shown_text c` is what is shown of the table c, `make_of text` what a text comes to.
-- Assumes nothing.
use Rattle.std.proofs.Common.{ℕ, arith, ◌≡◌, refl, sym, ap, ◌∙◌, Bool, true, false, cond, List, [], ◌∷◌, ◌++◌, append-nil, T, length-append}
use Rattle.std.proofs.Math.Facts.{and_yes}
use Rattle.arith.proofs.Bools.{true_of}
use Rattle.layout.specs.Contents.{Contents}
use Rattle.limits.specs.Limits.{value_good, shaped, within}
use Rattle.table.specs.Format.{Bytes, refused, loaded, parse_of, fit_of, load_of, encode}
use Rattle.table.proofs.Complete.{shaped_parts}
use Rattle.table.proofs.Theorems.{every_table_loads, written_back, parsed_shaped, loaded-within, load_ten}
use Rattle.text.specs.Ascii.{ascii, line_length, after_line, line, lines}
use Rattle.refusals.specs.Sentences.{sentences, refusal_text}
use Rattle.words.specs.Words.{ended, words_from, words_of, lines_from, words_of_each, lines_of}
use Rattle.making.specs.Making.{make_of}
use Rattle.showing.specs.Showing.{text_of, remark, shown_text}
use Rattle.tabletext.specs.Numbers.{among, make_numbers}
use Rattle.tabletext.proofs.Shown.{shown_words, text_again}
use Rattle.tabletext.proofs.Made.{silent_none, silent_blank, made}
use Rattle.tabletext.proofs.Lengths.{text_length, remark-length}
use Rattle.making.proofs.Written.{made_within}
use Rattle.tabletext.proofs.Numbers.{make_number}

-- the comment is a line without words
remark_lines : lines_of remark ≡ [] ∷ []
unfolding ascii line_length after_line line lines sentences refusal_text remark ended words_from words_of lines_from words_of_each lines_of
remark_lines = refl

no_lines : lines_of [] ≡ []
unfolding ended lines_from words_of_each lines_of
no_lines = refl

-- the text of a table within the limits but for question 10 says that table, and is refused where question 10 says no
plain_text : (c : Contents) → T (shaped c) → make_of (text_of c) ≡ cond (value_good c) (loaded c) (refused 10 0)
plain_text c t =
    let h = shaped_parts c t in
    let l = text_length c in
    let m = h.most in
    made (text_of c) c [] (ap lines_of (sym (append-nil (text_of c))) ∙ text_again c [] ∙ ap (λ x. shown_words c ++ x) no_lines) silent_none h (omega arith)

-- so is it with the comment behind it
marked_text : (c : Contents) → T (shaped c) → make_of (text_of c ++ remark) ≡ cond (value_good c) (loaded c) (refused 10 0)
marked_text c t =
    let h = shaped_parts c t in
    let l = text_length c in
    let m = h.most in
    let n = remark-length in
    let k = length-append (text_of c) remark in
    made (text_of c ++ remark) c ([] ∷ []) (text_again c remark ∙ ap (λ x. shown_words c ++ x) remark_lines) silent_blank h (omega arith)

-- what is shown of a file, made again, comes to what loading the file comes to
pub shown_loads : (bs : List ℕ) (c : Contents) → Bytes bs → parse_of bs ≡ loaded c → make_of (shown_text c) ≡ load_of bs
unfolding shown_text load_of
shown_loads bs c byte e = go (value_good c) ∙ sym (ap fit_of e)
  where
    shape : T (shaped c)
    shape = parsed_shaped bs c byte e

    go : (b : Bool) → make_of (text_of c ++ cond b [] remark) ≡ cond (value_good c) (loaded c) (refused 10 0)
    go true = ap make_of (append-nil (text_of c)) ∙ plain_text c shape
    go false = marked_text c shape

-- every table that loading accepts, shown and made again, is the same table, and its file is the one that was shown
pub shown_again : (bs : List ℕ) (c : Contents) → Bytes bs → load_of bs ≡ loaded c → (make_of (text_of c) ≡ loaded c) × (encode c ≡ bs)
unfolding within
shown_again bs c byte e =
    let w = and_yes (shaped c) (value_good c) (loaded-within bs c byte e) in
    (plain_text c w.0 ∙ rw (true_of (value_good c) w.1) refl, written_back bs c byte e)

-- a table that only question 10 refuses, shown with its comment, is refused with 10 too, and no line is to blame
pub shown_refused : (bs : List ℕ) (c : Contents) → Bytes bs → parse_of bs ≡ loaded c → value_good c ≡ false → make_of (shown_text c) ≡ refused 10 0
shown_refused bs c byte e n = shown_loads bs c byte e ∙ (load_ten bs c e).1 n

-- a text of which a table is made: the table's file is loaded as that table
pub made_loads : (text : List ℕ) (c : Contents) → make_of text ≡ loaded c → load_of (encode c) ≡ loaded c
made_loads text c e = every_table_loads c (made_within text c e)

-- a text is refused with 3 to 6, 8 to 10 or 101 to 113
pub make_numbers_lem : (text : List ℕ) (n p : ℕ) → make_of text ≡ refused n p → T (among n make_numbers)
make_numbers_lem text n p e = make_number text n p e
