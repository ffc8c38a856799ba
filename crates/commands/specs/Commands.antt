-- The command line: what each word is, and what they come to.
-- Assumes nothing.
use Rattle.std.specs.Prelude.{ℕ, suc, min, cond, Option, Some, None, List, [], ◌∷◌, eqb, length, get_or}
use Rattle.text.specs.Ascii.{ascii}
use Rattle.pgm.specs.Grammar.{digits, number}
use Rattle.words.specs.Words.{same}
use Rattle.commands.specs.declared.Word.{Word}
use Rattle.commands.specs.declared.Word.TheVariants.{Values, Rank, Help as AskHelp, Version as AskVersion, Dashed, Number, Table}
use Rattle.commands.specs.declared.Output.{Output}
use Rattle.commands.specs.declared.Output.TheVariants.{Numbers}
use Rattle.commands.specs.declared.Given.{Given}
use Rattle.commands.specs.declared.Given.TheVariants.{Nothing, Rank as OneGiven, Rows as TwoGiven, All, Beyond}
use Rattle.commands.specs.declared.Command.{Command}
use Rattle.commands.specs.declared.Command.TheVariants.{Filter as ByTable, Ranked as ByRank, Help, Version, Unknown, NoNumber, Usage}
use Rattle.commands.specs.declared.Begun.{Begun}
use Rattle.commands.specs.declared.Begun.TheVariants.{Filter, Ranked, Settled}

-- what begins with - is no option; digits are a number, held as 65,536 where it is larger; any other word names a table
unfoldable pub plain_of : List ℕ → Word
plain_of w =
    cond (eqb (length w) 0) Table
    (cond (eqb (get_or w 0 0) 45) Dashed (cond (eqb (digits w) (length w)) (Number (min 65536 (number 0 w))) Table))

-- an option by its name, or a plain word
unfoldable pub word_of : List ℕ → Word
word_of w =
    cond (same w (ascii "--values")) Values
    (cond (same w (ascii "--rank")) Rank
    (cond (same w (ascii "--help")) AskHelp
    (cond (same w (ascii "-h")) AskHelp (cond (same w (ascii "--version")) AskVersion (plain_of w)))))

-- the word at place i names the table, if none is named yet; the program's own, at place 0, names none
abbrev pub table_at : Output → (table : Option ℕ) → (i : ℕ) → Begun
table_at output None i = Filter output (cond (eqb i 0) None (Some i))
table_at output (Some k) i = Settled Usage

-- --rank, where no table is named: its three numbers follow
abbrev pub rank_after : Output → (table : Option ℕ) → Begun
rank_after output None = Ranked output Nothing
rank_after output (Some k) = Settled Usage

-- the next of the three numbers: R, rows, columns
unfoldable pub numbered_of : Output → Given → (n : ℕ) → Begun
numbered_of output Nothing n = Ranked output (OneGiven n)
numbered_of output (OneGiven rank) n = Ranked output (TwoGiven rank n)
numbered_of output (TwoGiven rank rows) n = Ranked output (All (record { rank = rank; rows = rows; columns = n }))
numbered_of output (All r) n = Settled Usage
numbered_of output Beyond n = Settled Usage

-- a word that is no number, at place i: another name of a table after just the three numbers
abbrev pub unnumbered : Given → (i : ℕ) → Command
unnumbered Nothing i = NoNumber i
unnumbered (OneGiven rank) i = NoNumber i
unnumbered (TwoGiven rank rows) i = NoNumber i
unnumbered (All r) i = Usage
unnumbered Beyond i = NoNumber i

-- one word more, at place i: options may stand before, between or after the others, and the first word that settles the matter does
unfoldable pub next_of : Begun → (i : ℕ) → Word → Begun
next_of (Filter output table) i Values = Filter Numbers table
next_of (Filter output table) i Rank = rank_after output table
next_of (Filter output table) i AskHelp = Settled Help
next_of (Filter output table) i AskVersion = Settled Version
next_of (Filter output table) i Dashed = Settled (Unknown i)
next_of (Filter output table) i (Number n) = table_at output table i
next_of (Filter output table) i Table = table_at output table i
next_of (Ranked output given) i Values = Ranked Numbers given
next_of (Ranked output given) i Rank = Settled Usage
next_of (Ranked output given) i AskHelp = Settled Help
next_of (Ranked output given) i AskVersion = Settled Version
next_of (Ranked output given) i Dashed = Settled (Unknown i)
next_of (Ranked output given) i (Number n) = numbered_of output given n
next_of (Ranked output given) i Table = Settled (unnumbered given i)
next_of (Settled command) i w = Settled command

-- a table, or three numbers
abbrev pub by_table : Output → Option ℕ → Command
by_table output None = Usage
by_table output (Some k) = ByTable output k

abbrev pub by_rank : Output → Given → Command
by_rank output Nothing = Usage
by_rank output (OneGiven rank) = Usage
by_rank output (TwoGiven rank rows) = Usage
by_rank output (All r) = ByRank output r
by_rank output Beyond = Usage

-- no more words: there must be a table, or three numbers
unfoldable pub ended_of : Begun → Command
ended_of (Filter output table) = by_table output table
ended_of (Ranked output given) = by_rank output given
ended_of (Settled command) = command

-- the words one after the other, the first of them at place i
unfoldable pub command_of : Begun → (i : ℕ) → List (List ℕ) → Command
command_of c i [] = ended_of c
command_of c i (w ∷ ws) = command_of (next_of c i (word_of w)) (suc i) ws
