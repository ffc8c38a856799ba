-- Bands: lines that every rectangle covers alike.
-- Assumes nothing.
use Rattle.std.proofs.Common.{ℕ, ◌+◌, ◌-◌, ◌*◌, ◌≤◌, ◌<◌, mul-le-mul_right, arith, ◌≡◌, sym, ap, ap₂, ◌∙◌, cond, ◌&&◌, ℤ, pos, ◌*ℤ◌}
use Rattle.arith.specs.Sum.{sum}
use Rattle.arith.proofs.Sums.{sum_cong, sum_const, sum_split}
use Rattle.arith.proofs.Ints.{sum_ℤ_cong}
use Rattle.layout.specs.declared.Rect.{Rect}
use Rattle.layout.specs.declared.Table.{Table}
use Rattle.layout.specs.Contents.{rect}
use Rattle.grid.specs.Grid.{offset, covers, factor, grid_at}
use Rattle.grid.specs.Lines.{line_most, line_sum, LinesAlike}

-- two lines that every rectangle covers alike have the same entries
pub grid_alike : (n : ℕ) (f : ℕ → Rect) (a c : ℕ)
    → ((k : ℕ) → k < n → covers (f k).leadrow (f k).trailrow (offset a) ≡ covers (f k).leadrow (f k).trailrow (offset c))
    → (b : ℕ) → grid_at n f a b ≡ grid_at n f c b
unfolding grid_at factor
grid_alike n f a c h b =
    sum_ℤ_cong n (λ k i. ap (λ g. (f k).weight *ℤ pos (cond (g && covers (f k).leadcol (f k).trailcol (offset b)) 1 0)) (h k i))

-- and the same sums
line_alike : (part : ℤ → ℕ) (t : Table) (a c : ℕ) → LinesAlike t a c → line_sum part t.count (rect t) c ≡ line_sum part t.count (rect t) a
line_alike part t a c h = sum_cong 31 (λ b i. ap part (h b))

-- m terms more, all alike
sum_alike : (f : ℕ → ℕ) (a m : ℕ) → ((c : ℕ) → a ≤ c → c < a + m → f c ≡ f a) → sum (a + m) f ≡ sum a f + f a * m
sum_alike f a m h =
    let s = sum_split a m f in
    let e = sum_cong m {f = λ k. f (a + k)} {g = λ k. f a} (λ k i. h (a + k) (omega arith) (omega arith)) in
    let c = sum_const m (f a) in
    omega arith

small : (a m s x : ℕ) → s ≤ a * line_most → x ≤ line_most → s + x * m ≤ (a + m) * line_most
small a m s x h i = let p = mul-le-mul_right m i in omega arith

-- the sum s of the lines before a and the sum x of line a, which is taken once for each line up to end
module _ (a end : ℕ) (h : a < end) (s x : ℕ) where
  up : a + (end - a) ≡ end
  up = omega arith

  pub band_sum : (part : ℤ → ℕ) (t : Table) → ((c : ℕ) → a ≤ c → c < end → LinesAlike t a c) → x ≡ line_sum part t.count (rect t) a
      → s ≡ sum a (line_sum part t.count (rect t)) → s + x * (end - a) ≡ sum end (line_sum part t.count (rect t))
  band_sum part t alike p q =
      ap₂ (λ y z. y + z * (end - a)) q p
      ∙ sym (sum_alike (line_sum part t.count (rect t)) a (end - a) (λ c i j. line_alike part t a c (alike c i (omega arith))))
      ∙ ap (λ n. sum n (line_sum part t.count (rect t))) up

  pub band_small : s ≤ a * line_most → x ≤ line_most → s + x * (end - a) ≤ end * line_most
  band_small i j = rw up at (small a (end - a) s x i j)
