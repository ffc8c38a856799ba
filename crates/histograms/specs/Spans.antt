-- What the functions that carry a window along a row compute, and what they ask. The contract of an arrival uses none of this.
-- Assumes nothing.
use Rattle.std.specs.Prelude.{ℕ, ◌+◌, ◌*◌, ◌≤◌, ◌<◌, ◌≡◌, List, ◌++◌, ℤ, length, get_or, drop}
use Rattle.std.proofs.Math.IntN.{sub_ℕ}
use Rattle.arith.specs.Part.{pos_part, neg_part}
use Rattle.arith.specs.Sum.{sum}
use Rattle.arith.specs.Tab.{tab}
use Rattle.layout.specs.declared.Rect.{Rect}
use Rattle.layout.specs.Measure.{cols_of}
use Rattle.levels.specs.Levels.{count_of, count_at, ranked}
use Rattle.histograms.specs.declared.windows.Span.{Span}
use Rattle.histograms.specs.declared.windows.Lane.{Lane}
use Rattle.histograms.specs.declared.windows.Run.{Run}
use Rattle.histograms.specs.Windows.{column_count}

-- the span of a window
abbrev pub span_of : Rect → (width levels rank : ℕ) → Span
span_of d width levels rank =
    record { ahead = pos_part d.leadcol; behind = neg_part d.leadcol; columns = cols_of d; width = width; levels = levels; rank = rank }

-- the count of level u in column i - (behind + columns)
abbrev pub framed : List ℕ → Span → (u i : ℕ) → ℕ
framed counts s u i = column_count counts s.width u (sub_ℕ i (s.behind + s.columns))

-- the counts of the window when k columns have entered: those of the last `columns` of them
abbrev pub slid_to : List ℕ → Span → (k u : ℕ) → ℕ
slid_to counts s k u = sum s.columns (λ j. framed counts s u (k + j))

-- ---- what is asked

-- zeros where there is no column
pub record Zeros (n : ℕ) (zeros : List ℕ) : Type 0 where
  pub long : n ≤ length zeros
  pub none : (k : ℕ) → get_or zeros k 0 ≡ 0

-- counts of at most 31 in each column, and 1 to 31 columns
pub record SpanFits (s : Span) (counts : List ℕ) : Type 0 where
  pub few : s.levels ≤ 256
  pub counts_long : s.width * 256 ≤ length counts
  pub behind_most : s.behind ≤ 15
  pub ahead_most : s.ahead ≤ 15
  pub columns_some : 1 ≤ s.columns
  pub columns_most : s.columns ≤ 31
  pub width_most : s.width ≤ 1024
  pub ranked : 1 ≤ s.rank
  pub small : (j u : ℕ) → j < s.width → u < s.levels → count_at counts j u ≤ 31

-- such counts with zeros for the columns outside the row
pub record BandFits (s : Span) (counts zeros : List ℕ) : Type 0 where
  pub span : SpanFits s counts
  pub dark : Zeros 256 zeros

-- a window store that holds the counts of the window when k columns have entered
pub record Holds (s : Span) (counts : List ℕ) (k : ℕ) (window : List ℕ) : Type 0 where
  pub long : s.levels ≤ length window
  pub each : (u : ℕ) → u < s.levels → count_of window u ≡ slid_to counts s k u

-- the counts of column k - back at the first of `count` pixels, of column k + 1 - back at the second, and so on
pub record LaneOf (s : Span) (counts : List ℕ) (k back most : ℕ) (l : Lane) : Type 0 where
  pub some : 1 ≤ most → 1 ≤ l.count
  pub few : l.count ≤ most
  pub step_most : l.step ≤ 256
  pub long : (i : ℕ) → i < l.count → i * l.step + s.levels ≤ length l.line.now
  pub is : (i u : ℕ) → i < l.count → get_or l.line.now (i * l.step + u) 0 ≡ column_count counts s.width u (sub_ℕ (k + i) back)

-- pixels from one on, with the lanes of the columns that enter and of those that leave
pub record RunOf (s : Span) (counts : List ℕ) (r : Run) : Type 0 where
  pub in_row : r.from + r.count ≤ s.width
  pub on : LaneOf s counts (r.from + s.ahead) s.behind r.on.count r.on
  pub off : LaneOf s counts (r.from + s.ahead) (s.behind + s.columns) r.off.count r.off
  pub on_long : r.count ≤ r.on.count
  pub off_long : r.count ≤ r.off.count

-- ---- what is left

-- the first c levels of the row are in the output o, and the window store w holds the window that the next pixel finds
pub record Reached (s : Span) (counts : List ℕ) (o : List ℤ) (w : List ℕ) (c : ℕ) (out : List ℤ) (window : List ℕ) : Type 0 where
  pub row : out ≡ tab c (λ k. ranked s.levels s.rank (slid_to counts s (k + s.ahead + 1))) ++ drop c o
  pub long : length out ≡ length o
  pub is : window ≡ tab s.levels (slid_to counts s (c + s.ahead)) ++ drop s.levels w

-- pixels from one to another: what was reached at the first is reached at the other, whatever was there at the start of the row
pub record Carried (s : Span) (counts : List ℕ) (from to : ℕ) (out₀ : List ℤ) (window₀ : List ℕ) (out : List ℤ) (window : List ℕ) : Type 0 where
  pub holds : Holds s counts (to + s.ahead) window
  pub out_long : length out ≡ length out₀
  pub long : length window ≡ length window₀
  pub carries : (o : List ℤ) (w : List ℕ) → Reached s counts o w from out₀ window₀ → Reached s counts o w to out window

-- what is left of a row: its levels in the output, and beyond the levels the window store as it was
pub record Written (s : Span) (counts : List ℕ) (out₀ : List ℤ) (window₀ : List ℕ) (out : List ℤ) (window : List ℕ) : Type 0 where
  pub row : out ≡ tab s.width (λ c. ranked s.levels s.rank (slid_to counts s (c + s.ahead + 1))) ++ drop s.width out₀
  pub rest : drop s.levels window ≡ drop s.levels window₀
  pub long : length window ≡ length window₀
