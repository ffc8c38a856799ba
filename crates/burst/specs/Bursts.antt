-- A burst: several rows given in one call, as the rows one by one.
-- Assumes nothing.
use Rattle.std.specs.Prelude.{ℕ, zero, suc, ◌+◌, ◌*◌, ◌/◌, ◌%◌, Bool, not, cond, List, [], ◌∷◌, leb, eqb, length, take, drop, ℤ, pos}
use Rattle.arith.specs.Tab.{paste}
use Rattle.layout.specs.Answers.{Said, refused, accepted, said, Question, asks, first_no, Left, left}
use Rattle.scan.specs.declared.Scan.{Scan}
use Rattle.scan.specs.Calls.{World, agrees, row_of}
use Rattle.burst.specs.declared.Burst.{Burst}

-- ---- rows one by one, for anything that takes a row with an output lent to it

-- part way: accepted so far or the refusal where it stopped, the state, the output, the rows taken and the filtered rows that are out
pub record Progress (S : Type 0) : Type 0 where
  pub said : Said
  pub state : S
  pub out : List ℤ
  pub taken : ℕ
  pub filtered : ℕ

abbrev pub progress : {S : Type 0} → Said → S → (out : List ℤ) → (taken filtered : ℕ) → Progress S
progress said s out taken filtered = record { said = said; state = s; out = out; taken = taken; filtered = filtered }

abbrev pub is_refused : Said → Bool
is_refused s = eqb s.kind 0

-- of a row the burst says only a refusal
abbrev pub row_said : Said → Said
row_said s = cond (is_refused s) s (accepted [])

-- the row after those taken, given with the L places after the filtered rows as its output
abbrev pub next_left : {S : Type 0} → (row : S → List ℕ → List ℤ → Left S) → (l : ℕ) → Progress S → (rows : List ℕ) → Left S
next_left row l p rows = row p.state (take l (drop (p.taken * l) rows)) (take l (drop (p.filtered * l) p.out))

-- what that row leaves, counted in: a row that is not refused was taken, and one with a number came out
abbrev pub counted : {S : Type 0} → (l : ℕ) → Progress S → Left S → Progress S
counted l p x =
    progress (row_said x.said) x.state (paste (p.filtered * l) x.out p.out) (p.taken + cond (is_refused x.said) 0 1)
    (p.filtered + length x.said.values)

-- n rows, up to one that is refused
unfoldable pub feed : {S : Type 0} → (row : S → List ℕ → List ℤ → Left S) → (l n : ℕ) → Progress S → (rows : List ℕ) → Progress S
feed row l zero p rows = p
feed row l (suc n) p rows =
    cond (is_refused (next_left row l p rows).said) (counted l p (next_left row l p rows)) (feed row l n (counted l p (next_left row l p rows)) rows)

-- what it leaves: what is said has the rows taken and the filtered rows that came out as its values, also where it is a refusal
abbrev pub with_counts : Said → (taken filtered : ℕ) → Said
with_counts s taken filtered = record { kind = s.kind; number = s.number; place = s.place; values = pos taken ∷ pos filtered ∷ [] }

abbrev pub burst_left : {S : Type 0} → Progress S → Left S
burst_left p = left (with_counts p.said p.taken p.filtered) p.state p.out

-- all rows of a slice of rows of l samples
abbrev pub all_rows : {S : Type 0} → (row : S → List ℕ → List ℤ → Left S) → (l : ℕ) → S → (rows : List ℕ) → (out : List ℤ) → Left S
all_rows row l s rows out = burst_left (feed row l (length rows / l) (progress (accepted []) s out 0 0) rows)

-- a burst that is refused before its first row
abbrev pub no_rows : {S : Type 0} → S → (out : List ℤ) → (number place : ℕ) → Left S
no_rows s out number place = burst_left (progress (refused number place) s out 0 0)

-- ---- a burst of rows of a scan

-- 14, 15, 21 that the slice holds whole rows, and 13 that the output is as long as the slice
unfoldable pub burst_asks : Scan → (rows out : ℕ) → List Question
burst_asks s rows out = asks 14 (agrees s) ∷ asks 15 (not s.closed) ∷ asks 21 (eqb (rows % s.width) 0) ∷ asks 13 (leb rows out) ∷ []

-- the questions before the first row, then the rows, each as the call of a row takes it
unfoldable pub burst_of : World → (rows : List ℕ) → (out : List ℤ) → Left World
burst_of w rows out = first_no (burst_asks w.scan (length rows) (length out)) (no_rows w out) (all_rows row_of w.scan.width w rows out)

-- a burst's answer in the rules' numbers
abbrev pub burst_said : Burst → Said
burst_said b = with_counts (said b.verdict) b.taken b.filtered
