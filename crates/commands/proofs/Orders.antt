-- An option may stand before the table or after it; the numbers after --rank are R, rows and columns; and a table may have digits for a name.
-- Assumes nothing.
use Rattle.std.proofs.Common.{◌≡◌, ℕ, List, [], ◌∷◌, None, refl}
use Rattle.text.specs.Ascii.{ascii}
use Rattle.pgm.specs.Grammar.{digit, digits, number}
use Rattle.words.specs.Words.{same}
use Rattle.commands.specs.declared.Word.TheVariants.{Values, Number, Table}
use Rattle.commands.specs.declared.Output.TheVariants.{Picture, Numbers}
use Rattle.commands.specs.declared.Command.TheVariants.{Filter as ByTable, Ranked as ByRank}
use Rattle.commands.specs.declared.Begun.TheVariants.{Filter}
use Rattle.commands.specs.Commands.{plain_of, word_of, numbered_of, next_of, ended_of, command_of}

values_word : word_of (ascii "--values") ≡ Values
unfolding ascii same word_of
values_word = refl

pub values_before : (t : List ℕ) → word_of t ≡ Table → command_of (Filter Picture None) 1 (ascii "--values" ∷ t ∷ []) ≡ ByTable Numbers 2
unfolding command_of next_of ended_of
values_before t h = rw (values_word, h) refl

pub values_after : (t : List ℕ) → word_of t ≡ Table → command_of (Filter Picture None) 1 (t ∷ ascii "--values" ∷ []) ≡ ByTable Numbers 1
unfolding command_of next_of ended_of
values_after t h = rw (values_word, h) refl

pub digits_name : (t : List ℕ) (n : ℕ) → word_of t ≡ Number n → command_of (Filter Picture None) 1 (t ∷ []) ≡ ByTable Picture 1
unfolding command_of next_of ended_of
digits_name t n h = rw h refl

ranked_words : command_of (Filter Picture None) 1 (ascii "--rank" ∷ ascii "5" ∷ ascii "3" ∷ ascii "1" ∷ [])
    ≡ ByRank Picture (record { rank = 5; rows = 3; columns = 1 })
unfolding ascii same digit digits number plain_of word_of numbered_of next_of ended_of command_of
ranked_words = refl
