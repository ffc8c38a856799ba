-- The numbers of the questions, and what asking one comes to.
-- Assumes nothing.
use Rattle.std.specs.Prelude.{ℕ, Bool, Result, Ok, Err, if◌then◌else◌}
use Rattle.layout.specs.declared.asking.Question.{Question}
use Rattle.layout.specs.declared.asking.Question.TheVariants.{
  Header,
  Contents,
  Bits,
  Drops,
  Word,
  Room,
  Field,
  Edges,
  Rectangle,
  Extremes,
  Table,
  Width,
  Stores,
  State,
  Phase,
  Rows,
  Length,
  Samples,
  Carried,
  Place,
  WholeRows,
  Rank,
  RankedBits,
  Heads,
  NoDrops,
}
use Rattle.layout.specs.declared.asking.Refusal.{Refusal}

-- the rules' number of a question
abbrev pub number_of : Question → ℕ
number_of Header = 1
number_of Contents = 2
number_of Bits = 3
number_of Drops = 4
number_of Word = 5
number_of Room = 6
number_of Field = 7
number_of Edges = 8
number_of Rectangle = 9
number_of Extremes = 10
number_of Table = 11
number_of Width = 12
number_of Stores = 13
number_of State = 14
number_of Phase = 15
number_of Rows = 16
number_of Length = 17
number_of Samples = 18
number_of Carried = 19
number_of Place = 20
number_of WholeRows = 21
number_of Rank = 22
number_of RankedBits = 23
number_of Heads = 24
number_of NoDrops = 25

-- a no to question q, with its place
abbrev pub no : Question → (place : ℕ) → Refusal
no q place = record { question = q; place = place }

-- one question asked: the call goes on, or ends with a no
abbrev pub asked_at : Question → (holds : Bool) → (place : ℕ) → Result (Unit {0}) Refusal
asked_at q holds place = if holds then Ok tt else Err (no q place)

abbrev pub asked : Question → (holds : Bool) → Result (Unit {0}) Refusal
asked q holds = asked_at q holds 0
