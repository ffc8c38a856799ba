-- What C is handed: each struct of the header from what a call says and leaves.
-- Assumes nothing.
use Rattle.std.specs.Prelude.{ℕ, cond, ◌&&◌, List, [], eqb, length, get_or, ℤ, pos, Result, Ok, Err}
use Rattle.arith.specs.Part.{pos_part}
use Rattle.layout.specs.Answers.{Said, refused, accepted, Left, Wrote}
use Rattle.table.specs.Format.{Handed as Loading}
use Rattle.scan.specs.declared.Scan.{Scan}
use Rattle.scan.specs.Calls.{World}
use Rattle.cstructs.specs.declared.answers.Refusal.{Refusal}
use Rattle.cstructs.specs.declared.answers.Head.{Head}
use Rattle.cstructs.specs.declared.tables.TableLoaded.{TableLoaded}
use Rattle.cstructs.specs.declared.tables.TableWritten.{TableWritten}
use Rattle.cstructs.specs.declared.scans.ScanStarted.{ScanStarted}
use Rattle.cstructs.specs.declared.scans.ScanAnswer.{ScanAnswer}
use Rattle.cstructs.specs.declared.bursts.BurstAnswer.{BurstAnswer}
use Rattle.cstructs.specs.declared.pixels.PixelAnswer.{PixelAnswer}
use Rattle.cstructs.specs.declared.sameness.SameAnswer.{SameAnswer}

-- ---- what is said with a refusal of any number, by what has a number and a place

abbrev pub result_by : {A R : Type 0} → (number place : R → ℕ) → (values : A → List ℤ) → Result A R → Said
result_by number place values (Ok x) = accepted (values x)
result_by number place values (Err r) = refused (number r) (place r)

abbrev pub verdict_by : {R : Type 0} → (number place : R → ℕ) → Result (Unit {0}) R → Said
verdict_by number place v = result_by number place (λ x. []) v

-- ---- an answer, from what a call says, whose number and place are 0 but for a refusal

-- value k of what is said, 0 where there is none; and the same as a natural number
abbrev pub value : Said → (k : ℕ) → ℤ
value s k = get_or s.values k (pos 0)

abbrev pub amount : Said → (k : ℕ) → ℕ
amount s k = pos_part (value s k)

-- the number and the place of a refusal
abbrev pub refusal_c : Said → Refusal
refusal_c s = record { number = s.number; place = s.place }

-- the kind, number and place of a row or a closing step: a filtered row has the row's number where a refusal has the question's
abbrev pub head_c : Said → Head
head_c s = record { kind = s.kind; number = cond (eqb s.kind 1) (amount s 0) s.number; place = s.place }

-- a file that was loaded, and its table
abbrev pub loaded_c : Loading → TableLoaded
loaded_c x = record { refusal = x.said.number; place = x.said.place; table = x.table }

-- a file that was written, with its length
abbrev pub written_c : Said → TableWritten
written_c s = record { refusal = s.number; place = s.place; length = amount s 0 }

-- a pixel
abbrev pub pixel_c : Said → PixelAnswer
pixel_c s = record { refusal = s.number; place = s.place; value = value s 0 }

-- two tables compared: same where that is said with no value, else the row and the column of the offset
abbrev pub same_c : Said → SameAnswer
same_c s =
    record { refusal = s.number; place = s.place; same = eqb s.kind 1 && eqb (length s.values) 0; row = value s 0; col = value s 1 }

-- a start or a close, and the scan after it
abbrev pub started_c : Said → Scan → ScanStarted
started_c s scan = record { refusal = s.number; place = s.place; scan = scan }

-- a row or a closing step, and the scan after it
abbrev pub answer_c : Said → Scan → ScanAnswer
answer_c s scan = let h = head_c s in record { kind = h.kind; number = h.number; place = h.place; scan = scan }

-- a burst, with the rows taken and the filtered rows that came out, and the scan after it
abbrev pub burst_c : Said → Scan → BurstAnswer
burst_c s scan = record { refusal = s.number; place = s.place; taken = amount s 0; filtered = amount s 1; scan = scan }

-- ---- what C has after a call

-- after a call on a scan: the answer, the two stores and the output
pub record Handed (A : Type 0) : Type 0 where
  pub answer : A
  pub samples : List ℕ
  pub sums : List ℕ
  pub out : List ℤ

abbrev pub handed : {A : Type 0} → A → (samples sums : List ℕ) → (out : List ℤ) → Handed A
handed answer samples sums out = record { answer = answer; samples = samples; sums = sums; out = out }

abbrev pub left_c : {A : Type 0} → (answer : Said → Scan → A) → Left World → Handed A
left_c answer x = handed (answer x.said x.state.scan) x.state.samples x.state.sums x.out

-- after a call that only writes: the answer and the output
pub record HandedOutput (A : Type 0) : Type 0 where
  pub answer : A
  pub out : List ℕ

abbrev pub handed_output : {A : Type 0} → A → (out : List ℕ) → HandedOutput A
handed_output answer out = record { answer = answer; out = out }

abbrev pub wrote_c : {A : Type 0} → (answer : Said → A) → Wrote → HandedOutput A
wrote_c answer x = handed_output (answer x.said) x.out
