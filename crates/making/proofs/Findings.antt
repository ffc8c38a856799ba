-- The lines of a text, and those of a kind.
-- Assumes nothing.
use Rattle.std.proofs.Common.{◌≡◌, ℕ, Option, Some, None, suc, ◌+◌, ◌≤◌, Bool, true, false, cond, eqb, List, [], ◌∷◌, ◌++◌, length, refl, sym, ap, ap₂, ◌∙◌, arith, length-append}
use Rattle.std.specs.Option.{option_eq}
use Rattle.forms.specs.contracts.kinds.KindPartialEq.TheImpl.{eq-value}
use Rattle.forms.specs.declared.kinds.Kind.{Kind}
use Rattle.forms.specs.declared.kinds.Kind.TheVariants.{Bits, Drops, Shift, Word, Rectangle}
use Rattle.words.specs.Words.{ended, words_of, lines_from, words_of_each, lines_of}
use Rattle.forms.specs.Forms.{kind_of, kind_number, kind_said}
use Rattle.making.specs.Making.{line, of_kind}

-- ---- lines

each_length : (ls : List (List ℕ)) → length (words_of_each ls) ≡ length ls
unfolding words_of_each
each_length [] = refl
each_length (l ∷ ls) = ap suc (each_length ls)

lines_count : (line text : List ℕ) → length (lines_from line text) ≤ length line + length text
unfolding lines_from ended
lines_count [] [] = omega arith
lines_count (a ∷ line) [] = omega arith
lines_count line (b ∷ text) = go (eqb b 10) (lines_count [] text) (lines_count (line ++ (b ∷ [])) text)
  where
    go : (c : Bool) → length (lines_from [] text) ≤ 0 + length text
        → length (lines_from (line ++ (b ∷ [])) text) ≤ length (line ++ (b ∷ [])) + length text
        → length (cond c (line ∷ lines_from [] text) (lines_from (line ++ (b ∷ [])) text)) ≤ length line + suc (length text)
    go true h k = omega arith
    go false h k = let l = length-append line (b ∷ []) in omega arith

-- there are no more lines than bytes
pub lines_few : (text : List ℕ) → length (lines_of text) ≤ length text
unfolding lines_of
lines_few text = let a = each_length (lines_from [] text) in let b = lines_count [] text in omega arith

module _ (text : List ℕ) where
  pub lines_end : lines_from [] text ≡ [] → lines_of text ≡ []
  unfolding lines_of words_of_each
  lines_end e = ap words_of_each e

  pub lines_more : (l rest : List ℕ) → lines_from [] text ≡ l ∷ lines_from [] rest → lines_of text ≡ words_of l ∷ lines_of rest
  unfolding lines_of words_of_each
  lines_more l rest e = ap words_of_each e

-- ---- the lines of a kind

module _ (kind place : ℕ) (ls : List (List (List ℕ))) where
  pub kind_end : ls ≡ [] → of_kind kind place ls ≡ []
  unfolding of_kind
  kind_end e = ap (of_kind kind place) e

  module _ (words : List (List ℕ)) (lines : List (List (List ℕ))) (is : ls ≡ words ∷ lines) where
    pub kind_hit : eqb (kind_of words) kind ≡ true → of_kind kind place ls ≡ line place words ∷ of_kind kind (suc place) lines
    unfolding of_kind
    kind_hit e = ap (of_kind kind place) is ∙ hit e
      where
        hit : eqb (kind_of words) kind ≡ true → of_kind kind place (words ∷ lines) ≡ line place words ∷ of_kind kind (suc place) lines
        hit e = rw e refl

    pub kind_miss : eqb (kind_of words) kind ≡ false → of_kind kind place ls ≡ of_kind kind (suc place) lines
    unfolding of_kind
    kind_miss e = ap (of_kind kind place) is ∙ miss e
      where
        miss : eqb (kind_of words) kind ≡ false → of_kind kind place (words ∷ lines) ≡ of_kind kind (suc place) lines
        miss e = rw e refl

-- two kinds are the same where their numbers are
pub kind_is : (o : Option Kind) (k : Kind) → option_eq (eq-value).it o (Some k) ≡ eqb (kind_said o) (kind_number k)
kind_is None Bits = refl
kind_is None Drops = refl
kind_is None Shift = refl
kind_is None Word = refl
kind_is None Rectangle = refl
kind_is (Some Bits) Bits = refl
kind_is (Some Bits) Drops = refl
kind_is (Some Bits) Shift = refl
kind_is (Some Bits) Word = refl
kind_is (Some Bits) Rectangle = refl
kind_is (Some Drops) Bits = refl
kind_is (Some Drops) Drops = refl
kind_is (Some Drops) Shift = refl
kind_is (Some Drops) Word = refl
kind_is (Some Drops) Rectangle = refl
kind_is (Some Shift) Bits = refl
kind_is (Some Shift) Drops = refl
kind_is (Some Shift) Shift = refl
kind_is (Some Shift) Word = refl
kind_is (Some Shift) Rectangle = refl
kind_is (Some Word) Bits = refl
kind_is (Some Word) Drops = refl
kind_is (Some Word) Shift = refl
kind_is (Some Word) Word = refl
kind_is (Some Word) Rectangle = refl
kind_is (Some Rectangle) Bits = refl
kind_is (Some Rectangle) Drops = refl
kind_is (Some Rectangle) Shift = refl
kind_is (Some Rectangle) Word = refl
kind_is (Some Rectangle) Rectangle = refl

module _ (kind : ℕ) (place at next : ℕ) (a : at ≡ place) (b : next ≡ suc place) (ls : List (List (List ℕ)))
    (words : List (List ℕ)) (rest : List (List (List ℕ))) (is : ls ≡ words ∷ rest) where
  pub left_hit : eqb (kind_of words) kind ≡ true → of_kind kind place ls ≡ line at words ∷ of_kind kind next rest
  left_hit e = kind_hit kind place ls words rest is e ∙ ap₂ (λ p n. line p words ∷ of_kind kind n rest) (sym a) (sym b)

  pub left_miss : eqb (kind_of words) kind ≡ false → of_kind kind next rest ≡ of_kind kind place ls
  left_miss e = sym (kind_miss kind place ls words rest is e ∙ ap (λ n. of_kind kind n rest) (sym b))
