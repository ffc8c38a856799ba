-- What is said of an input that is refused: its name, the line at fault and what the number means.
-- Assumes nothing.
use Rattle.std.specs.Prelude.{ℕ, ◌-◌, cond, List, [], ◌∷◌, ◌++◌, ltb, eqb}
use Prim.Native.String.{String}
use Rattle.text.specs.Text.{cell}
use Rattle.text.specs.Ascii.{ascii, line, lines}
use Rattle.refusals.specs.Sentences.{refusal_text}

-- the sentences of a text's own faults in the order of their numbers, from 100 on; 100, which is no fault, has an empty one
unfoldable pub own_sentences : List String
own_sentences =
    ""
    ∷ "the line begins with none of bits, drops, shift, word, rectangle"
    ∷ "the line is not of the form: bits B"
    ∷ "the line is not of the form: drops Q1 Q2 Q3"
    ∷ "the line is not of the form: shift T"
    ∷ "the line is not of the form: word W"
    ∷ "the line is not of the form: rectangle lead ROW COLUMN trail ROW COLUMN weight WEIGHT"
    ∷ "the weight is not from -32768 to 32767"
    ∷ "an earlier line has said this"
    ∷ "there is no line that begins with bits"
    ∷ "there is no line that begins with drops"
    ∷ "there is no line that begins with shift"
    ∷ "there is no line that begins with word"
    ∷ "the text is longer than 65535 bytes"
    ∷ []

-- a word, a number, a colon and a space
unfoldable pub numbered : (word : List ℕ) → (n : ℕ) → List ℕ
numbered word n = word ++ cell n 58 ++ (32 ∷ [])

-- the line at fault; nothing for 0, where no line is to blame
unfoldable pub place_text : (place : ℕ) → List ℕ
place_text place = cond (eqb place 0) [] (numbered (ascii "line ") place)

-- what a number means: below 100 it is one of the rules' refusals, from 100 on one of the text's own faults
unfoldable pub meaning_text : (number : ℕ) → List ℕ
meaning_text number =
    cond (ltb number 100) (numbered (ascii "refused, ") number ++ refusal_text number) (line (number - 100) (lines own_sentences))

-- what follows the name
unfoldable pub rest_text : (place number : ℕ) → List ℕ
rest_text place number = ascii ": " ++ place_text place ++ meaning_text number ++ (10 ∷ [])

-- the message
unfoldable pub fault_text : (name : List ℕ) → (place number : ℕ) → List ℕ
fault_text name place number = name ++ rest_text place number
