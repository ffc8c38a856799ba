-- Which tables, headers and rows are taken, and what is wrong with the others.
-- Assumes nothing.
use Rattle.std.specs.Prelude.{ℕ, ◌*◌, ◌%◌, ◌^◌, ◌≤◌, ◌≡◌, Bool, cond, leb, ltb, eqb, Result, Ok, Err}
use Rattle.rule.specs.Questions.{width_good}
use Rattle.pgm.specs.declared.Opening.{Opening}
use Rattle.pgm.specs.declared.NoHeader.{NoHeader}
use Rattle.pgm.specs.declared.NoHeader.TheVariants.{More, Foreign as NoPgm, Bad as BadNumber, Large as LargeNumber, Unended as NotEnded}
use Rattle.pgm.specs.Raster.{sample_bytes}
use Rattle.filtering.specs.declared.Job.{Job}
use Rattle.filtering.specs.declared.Fault.{Fault}
use Rattle.filtering.specs.declared.Fault.TheVariants.{
  NoTable,
  Table,
  Empty,
  CutHeader,
  Foreign,
  Bad,
  Unended,
  Large,
  NoMaxval,
  Maxval,
  Bits,
  Width,
  Sample,
  Engine,
}

-- a table file of n bytes, refused by what has a number
unfoldable pub table_fault_of : {A R : Type 0} → (number : R → ℕ) → Result A R → (n : ℕ) → Result A Fault
table_fault_of number (Ok table) n = cond (eqb n 0) (Err NoTable) (Ok table)
table_fault_of number (Err refusal) n = cond (eqb n 0) (Err NoTable) (Err (Table (number refusal)))

-- samples up to the maxval fit b bits
unfoldable pub maxval_fits : (maxval b : ℕ) → Bool
maxval_fits maxval b = ltb maxval (2 ^ b)

-- a scan that is taken
abbrev pub job_of : (width height maxval : ℕ) → Job
job_of width height maxval = record { width = width; height = height; maxval = maxval; need = width * sample_bytes maxval }

-- what holds of it
pub record Accepts (j : Job) : Type 0 where
  pub low : 1 ≤ j.width
  pub high : j.width ≤ 1024
  pub few : j.maxval ≤ 4095
  pub row : j.need ≡ j.width * sample_bytes j.maxval
  pub some : 1 ≤ j.need
  pub most : j.need ≤ 2048

-- a whole header: the maxval is from 1 to 4,095 and fits b bits, the width is from 1 to 1,024
unfoldable pub whole_of : (b width height maxval : ℕ) → Result Job Fault
whole_of b width height maxval =
    cond (eqb maxval 0) (Err NoMaxval)
    (cond (leb maxval 4095)
    (cond (maxval_fits maxval b) (cond (width_good width) (Ok (job_of width height maxval)) (Err (Width width))) (Err (Bits maxval b)))
    (Err (Maxval maxval)))

-- no header: one that goes on is cut off
abbrev pub header_fault : NoHeader → Fault
header_fault More = CutHeader
header_fault NoPgm = Foreign
header_fault (BadNumber entry at) = Bad entry at
header_fault (NotEnded at) = Unended at
header_fault (LargeNumber entry at) = Large entry at

-- what the first n bytes of the scan come to, for samples of b bits
unfoldable pub judged_of : (b : ℕ) → Result Opening NoHeader → (n : ℕ) → Result Job Fault
judged_of b (Ok opening) n = whole_of b opening.width opening.height opening.maxval
judged_of b (Err More) n = cond (eqb n 0) (Err Empty) (Err CutHeader)
judged_of b (Err NoPgm) n = Err Foreign
judged_of b (Err (BadNumber entry at)) n = Err (Bad entry at)
judged_of b (Err (NotEnded at)) n = Err (Unended at)
judged_of b (Err (LargeNumber entry at)) n = Err (Large entry at)

-- rows that were read: the engine's refusal comes first; then a sample above the maxval, at `place` of `count` samples
unfoldable pub row_fault_of : {R : Type 0} → (number_of place_of : R → ℕ) → Result (Unit {0}) R → Job → (rows place count : ℕ) → Result (Unit {0}) Fault
row_fault_of number_of place_of (Err refusal) job rows place count = Err (Engine (number_of refusal) (place_of refusal))
row_fault_of number_of place_of (Ok taken) job rows place count =
    cond (leb count place) (Ok tt) (cond (eqb job.width 0) (Ok tt) (Err (Sample rows (place % job.width) job.maxval)))
