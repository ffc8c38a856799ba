-- Texts put one after the other, and a few as they are read.
-- Assumes nothing.
use Rattle.std.proofs.Common.{◌≡◌, ℕ, List, ◌++◌, refl, append_assoc}
use Rattle.std.specs.Fmt.{digits}
use Rattle.text.specs.Text.{Put}
use Rattle.text.proofs.Puts.{put_then}
use Rattle.text.specs.Ascii.{ascii, line_length, after_line, line, lines}
use Rattle.refusals.specs.Sentences.{sentences, refusal_text}
use Rattle.pgm.specs.declared.Entry.TheVariants.{Width}
use Rattle.filtering.specs.declared.Fault.TheVariants.{Table, Cut, Bad}
use Rattle.filtering.specs.Messages.{fault_text}

-- a text, words and the number after them
pub put_joined :
    {o o1 o2 s : List ℕ} {a b c : ℕ} (w n : List ℕ) → Put o a s o1 b → Put o1 b (w ++ n) o2 c → Put o a (s ++ w ++ n) o2 c
put_joined {s} w n p q = rw (append_assoc s w n) (put_then p q)

-- a table whose b is wrong; a scan that ends in row 7; a header with no width
table_3 : fault_text (Table 3) ≡ ascii "table refused, 3: b is not from 1 to 12\n"
unfolding ascii digits line_length after_line line lines sentences refusal_text
table_3 = refl

cut_7 : fault_text (Cut 7 3 12) ≡ ascii "cut off in row 7 after 3 of 12 bytes\n"
unfolding ascii digits
cut_7 = refl

bad_0 : fault_text (Bad Width 3) ≡ ascii "header, byte 3: the width is no number\n"
unfolding ascii digits
bad_0 = refl
