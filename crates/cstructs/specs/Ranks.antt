-- What C is handed by the calls of a ranked scan.
-- Assumes nothing.
use Rattle.std.specs.Prelude.{ℕ, List, ℤ}
use Rattle.layout.specs.Answers.{Said, Left}
use Rattle.rank.specs.declared.RankScan.{RankScan}
use Rattle.rank.specs.Calls.{World}
use Rattle.cstructs.specs.declared.ranks.RankStarted.{RankStarted}
use Rattle.cstructs.specs.declared.ranks.RankAnswer.{RankAnswer}
use Rattle.cstructs.specs.Answers.{head_c}

-- a start or a close, and the scan after it
abbrev pub started_c : Said → RankScan → RankStarted
started_c s scan = record { refusal = s.number; place = s.place; scan = scan }

-- a row or a closing step, and the scan after it
abbrev pub answer_c : Said → RankScan → RankAnswer
answer_c s scan = let h = head_c s in record { kind = h.kind; number = h.number; place = h.place; scan = scan }

-- after a call: the answer, the three stores and the output
pub record Handed (A : Type 0) : Type 0 where
  pub answer : A
  pub samples : List ℕ
  pub counts : List ℕ
  pub windows : List ℕ
  pub out : List ℤ

abbrev pub handed : {A : Type 0} → A → (samples counts windows : List ℕ) → (out : List ℤ) → Handed A
handed answer samples counts windows out = record { answer = answer; samples = samples; counts = counts; windows = windows; out = out }

abbrev pub left_c : {A : Type 0} → (answer : Said → RankScan → A) → Left World → Handed A
left_c answer x = handed (answer x.said x.state.scan) x.state.samples x.state.counts x.state.windows x.out
