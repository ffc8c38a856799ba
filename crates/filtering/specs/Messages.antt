-- What is said, byte for byte.
-- Assumes nothing.
use Rattle.std.specs.Prelude.{ℕ, Option, Some, None, List, [], ◌∷◌, ◌++◌, codes}
use Rattle.std.specs.Fmt.{decimal}
use Rattle.text.specs.Ascii.{lines}
use Rattle.refusals.specs.Sentences.{refusal_text}
use Rattle.pgm.specs.Text.{entry_name}
use Rattle.filtering.specs.declared.Fault.{Fault}
use Rattle.filtering.specs.declared.Fault.TheVariants.{
  NoTable,
  Table,
  Empty,
  CutHeader,
  Foreign,
  Bad,
  Unended,
  Large,
  NoMaxval,
  Maxval,
  Bits,
  Width,
  Cut,
  Sample,
  Engine,
}
use Rattle.commands.specs.declared.Command.{Command}
use Rattle.commands.specs.declared.Command.TheVariants.{Filter, Ranked, Help, Version, Unknown, NoNumber, Usage}

-- a fault, after the name of what it is a fault of; the number of a refusal comes before its words
abbrev pub fault_text : Fault → List ℕ
fault_text NoTable = codes "table refused, 1: the file is empty\n"
fault_text (Table number) = codes "table refused, " ++ decimal number ++ codes ": " ++ refusal_text number ++ codes "\n"
fault_text Empty = codes "the input is empty\n"
fault_text CutHeader = codes "the header is cut off, or longer than 4096 bytes\n"
fault_text Foreign = codes "not a binary PGM: it does not begin with P5 and white space\n"
fault_text (Bad entry at) = codes "header, byte " ++ decimal at ++ codes ": the " ++ entry_name entry ++ codes " is no number\n"
fault_text (Unended at) = codes "header, byte " ++ decimal at ++ codes ": no white space after the maxval\n"
fault_text (Large entry at) = codes "header, byte " ++ decimal at ++ codes ": the " ++ entry_name entry ++ codes " is above 65535\n"
fault_text NoMaxval = codes "header: the maxval is 0\n"
fault_text (Maxval n) = codes "header: the maxval " ++ decimal n ++ codes " is above 4095\n"
fault_text (Bits n b) = codes "header: the maxval " ++ decimal n ++ codes " needs more than " ++ decimal b ++ codes " bits\n"
fault_text (Width n) = codes "header: the width " ++ decimal n ++ codes " is not from 1 to 1024\n"
fault_text (Cut row got need) =
    codes "cut off in row " ++ decimal row ++ codes " after " ++ decimal got ++ codes " of " ++ decimal need ++ codes " bytes\n"
fault_text (Sample row column n) =
    codes "row " ++ decimal row ++ codes ", column " ++ decimal column ++ codes ": the sample is above the maxval " ++ decimal n ++ codes "\n"
fault_text (Engine number place) =
    codes "the engine refused, " ++ decimal number ++ codes ", place " ++ decimal place ++ codes ": " ++ refusal_text number ++ codes "\n"

-- the line for a fault, or for none
abbrev pub line_text : Option Fault → List ℕ
line_text (Some fault) = fault_text fault
line_text None = codes "\n"

-- what is answered to a command line that asks for no filtering
unfoldable pub answer_text : Command → List ℕ
answer_text (Filter output table) = []
answer_text (Ranked output ranking) = []
answer_text Help =
    lines
    ("usage: stripfilter [--values] TABLE < scan.pgm > filtered.pgm"
    ∷ "       stripfilter [--values] --rank R ROWS COLS < scan.pgm > filtered.pgm"
    ∷ "Filters a binary PGM by a table file and writes a 16-bit PGM; or, up to 8 bits, writes at each"
    ∷ "place the sample of rank R, from the darkest on, among those under a window of ROWS by COLS."
    ∷ "  --rank         R from 1 to ROWS * COLS, ROWS and COLS from 1 to 31; a 3 by 3 median is 5 3 3"
    ∷ "  --values       writes the pixels as decimal numbers, a line a row"
    ∷ "  --help, -h     says this"
    ∷ "  --version      says the version"
    ∷ [])
answer_text Version = lines ("stripfilter 1.2.0" ∷ [])
answer_text (Unknown i) = lines ("no such option; stripfilter --help lists them" ∷ [])
answer_text (NoNumber i) = lines ("no number; --rank takes R ROWS COLS" ∷ [])
answer_text Usage =
    lines
    ("usage: stripfilter [--values] TABLE < scan.pgm > filtered.pgm"
    ∷ "       stripfilter [--values] --rank R ROWS COLS < scan.pgm > filtered.pgm"
    ∷ [])
