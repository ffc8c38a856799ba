-- What the passes over the columns of a row compute, each over plain lists, and what they ask.
-- Assumes nothing.
use Rattle.std.specs.Prelude.{ℕ, suc, ◌+◌, ◌-◌, ◌*◌, ◌/◌, ◌%◌, ◌^◌, ◌<◌, ◌≤◌, Bool, ◌&&◌, T, List, length, ℤ, nat_le, slice_index}
use Rattle.std.proofs.Math.IntN.{sub_ℕ}
use Rattle.arith.specs.Floor.{floor_div}
use Rattle.arith.specs.Sum.{sum}
use Rattle.arith.specs.Twos.{signed, fits_signed}

-- ---- column sums: a bound is below 2^17, and so is a place of a line

abbrev pub bound_most : ℕ
bound_most = 131071

abbrev pub bound_end : ℕ
bound_end = 131072

-- a stored sum may move: the leaving sample is in it, and the result is within the bound
abbrev pub movable : (stored off on bound : ℕ) → Bool
movable stored off on bound = nat_le off stored && nat_le (stored - off + on) bound

-- both steps of a stored sum, wrapped at 2^32, where 2^32 - 1 times a number takes it off
abbrev pub stepped : (stored off on : ℕ) → ℕ
stepped stored off on = (stored + 4294967295 * off + on) % 4294967296

-- sample c of a row without its q low bits
abbrev pub truncated : (row : List ℕ) → (q c : ℕ) → ℕ
truncated row q c = slice_index row c / 2 ^ q

-- whether the sum of column c may move, the sum after both steps, and the truncated new sum where it may
abbrev pub movable_at : (sums off on : List ℕ) → (bound q1 c : ℕ) → Bool
movable_at sums off on bound q1 c = movable (slice_index sums c) (truncated off q1 c) (truncated on q1 c) bound

abbrev pub stepped_at : (sums off on : List ℕ) → (q1 c : ℕ) → ℕ
stepped_at sums off on q1 c = stepped (slice_index sums c) (truncated off q1 c) (truncated on q1 c)

abbrev pub new_at : (sums off on : List ℕ) → (q1 q2 c : ℕ) → ℕ
new_at sums off on q1 q2 c = (slice_index sums c - truncated off q1 c + truncated on q1 c) / 2 ^ q2

-- ---- lines, modulo 2^32

-- the prefix sum of a line at place i: the sum of the i places before it
abbrev pub prefix : List ℕ → (i : ℕ) → ℕ
prefix line i = sum i (λ j. slice_index line j)

-- the running sum of a line at place i: the sum of the places up to it
abbrev pub running : List ℕ → (i : ℕ) → ℕ
running line i = prefix line (suc i) % 4294967296

-- p less g, where 2^32 - 1 times a number takes it off
abbrev pub less : (p g : ℕ) → ℕ
less p g = (p + 4294967295 * g) % 4294967296

-- a value with m times the difference of two places, without its q low bits
abbrev pub weighed : (value m p g q : ℕ) → ℕ
weighed value m p g q = (value + m * (less p g / 2 ^ q)) % 4294967296

-- the pixel of a value: as a signed number, divided by 2^shift and rounded down
abbrev pub rounded_word : (value shift : ℕ) → ℤ
rounded_word value shift = floor_div (signed 32 value) shift

-- ---- values of 64 bits: each stands above 2^41, a rectangle adds or takes off at most 2^37, and a scaled window sum is below 2^22

abbrev pub bias : ℕ
bias = 2199023255552

abbrev pub value_most : ℕ
value_most = 4398046511104

abbrev pub part_most : ℕ
part_most = 137438953472

abbrev pub scaled_end : ℕ
scaled_end = 4194304

-- the difference of two places, truncated by q3 bits and scaled back by q
abbrev pub scaled : (lead trail : List ℕ) → (q3 q c : ℕ) → ℕ
scaled lead trail q3 q c = less (slice_index lead c) (slice_index trail c) / 2 ^ q3 * 2 ^ q

-- a value with weight times x, the weight being above - below
abbrev pub plus : (value above below x : ℕ) → ℕ
plus value above below x = value + above * x - below * x

-- the pixel of a value: without the bias, divided by 2^shift and rounded down
abbrev pub rounded : (value shift : ℕ) → ℤ
rounded value shift = floor_div (sub_ℕ value bias) shift

-- ---- what each pass asks, of lengths, lists and numbers

pub record RoundFits (value shift : ℕ) : Type 0 where
  pub value_at_most : value ≤ value_most
  pub in_word : T (fits_signed 32 (rounded value shift))

pub record WideWords (n shift word : ℕ) (acc : List ℕ) : Type 0 where
  pub acc_long : n ≤ length acc
  pub shift_most : shift ≤ 31
  pub word_least : 8 ≤ word
  pub word_most : word ≤ 32
  pub value_at_most : (c : ℕ) → c < n → slice_index acc c ≤ value_most
