-- Truncated column sums written into a padded line: the line of the rectangle, padded still.
-- Assumes nothing.
use Rattle.std.proofs.Common.{ℕ, ◌+◌, ◌-◌, ◌/◌, ◌^◌, ◌≤◌, ◌<◌, arith, ◌≡◌, sym, ap, ap₂, ◌∙◌, Bool, true, false, cond, not, List, ◌++◌, T, ltb, ltb→lt, nltb→le, length, get_or, take, drop, length-take-le}
use Rattle.std.proofs.Math.Nat.{zero-div}
use borrow.Rule.Slice.PartMut.{put_mid}
use Rattle.arith.specs.Tab.{tab}
use Rattle.arith.proofs.Parts.{part, part_length}
use Rattle.arith.proofs.Tabs.{length-tab, get_or-tab, tab_cong}
use Rattle.arrival.specs.Arrivals.{Arrival, new_sum, line_at}
use Rattle.arrival.specs.Rectangles.{line_of, ZeroPadded}
use Rattle.arrival.proofs.Padded.{back_long, back_before, back_in, back_after}

-- w numbers in a padded line from place 32 on
module _ (line ys : List ℕ) (w : ℕ) (padded : ZeroPadded w line) (few : length ys ≡ w) where
  room : 32 + w ≤ length line
  room = let l = padded.places in omega arith

  pub padded_put : ZeroPadded w (put_mid 32 (32 + w - 32) line ys)
  padded_put =
      record {
        places = rw (back_long 32 w line ys few room) padded.places;
        before = λ i h. back_before 32 w line ys few room i h ∙ padded.before i h;
        after = λ i h. back_after 32 w line ys few room i h ∙ padded.after i h;
      }

-- truncated new column sums make it the line of their rectangle
module _
    (v : Arrival) (k : ℕ) (line ys : List ℕ) (padded : ZeroPadded v.width line)
    (is : ys ≡ tab v.width (λ c. new_sum v k c / 2 ^ v.table.q2)) where
  few : length ys ≡ v.width
  few = ap length is ∙ length-tab v.width _

  abbrev put : List ℕ
  put = put_mid 32 (32 + v.width - 32) line ys

  column : (j : ℕ) (c : Bool) → (T c → j < v.width) → (T (not c) → v.width ≤ j) → get_or put (32 + j) 0 ≡ cond c (new_sum v k j) 0 / 2 ^ v.table.q2
  column j true y n =
      back_in 32 v.width line ys few (room line ys v.width padded few) j (y tt) ∙ ap (λ xs. get_or xs j 0) is
      ∙ get_or-tab v.width (λ c. new_sum v k c / 2 ^ v.table.q2) j 0 (y tt)
  column j false y n =
      let h = n tt in
      back_after 32 v.width line ys few (room line ys v.width padded few) (32 + j) (omega arith) ∙ padded.after (32 + j) (omega arith)
      ∙ sym (zero-div (2 ^ v.table.q2))

  pub line_put : (i : ℕ) → get_or put i 0 ≡ line_of v k i
  unfolding line_of line_at
  line_put i = go (ltb i 32) (ltb→lt i 32) (nltb→le i 32)
    where
      go : (b : Bool) → (T b → i < 32) → (T (not b) → 32 ≤ i)
          → get_or put i 0 ≡ cond b 0 (cond (ltb (i - 32) v.width) (new_sum v k (i - 32)) 0 / 2 ^ v.table.q2)
      go true y n = (padded_put line ys v.width padded few).before i (y tt)
      go false y n =
          let h = n tt in
          let m : i ≡ 32 + (i - 32) = omega arith in
          ap (λ p. get_or put p 0) m ∙ column (i - 32) (ltb (i - 32) v.width) (ltb→lt (i - 32) v.width) (nltb→le (i - 32) v.width)

-- a line of a store that is lent, `&mut s[p..p + l]`, and comes back from a pass over it
pub line_renewed : (p l : ℕ) (xs : List ℕ) {ys : List ℕ} {f g : ℕ → ℕ} → p + l ≤ length xs → ys ≡ tab (length (part p l xs)) f
    → ((c : ℕ) → c < l → f c ≡ g c) → put_mid p (p + l - p) xs ys ≡ put_mid p l xs (tab l g)
line_renewed p l xs {ys} {f} h e i =
    let n : p + l - p ≡ l = omega arith in
    ap₂ (λ j ys. put_mid p j xs ys) n (e ∙ ap (λ m. tab m f) (part_length p l xs h) ∙ tab_cong l i)

-- what a pass over a whole line leaves
pub tab_by : {A : Type 0} {n m : ℕ} {f g : ℕ → A} {ys : List A} → ys ≡ tab n f → n ≡ m → ((c : ℕ) → c < m → f c ≡ g c) → ys ≡ tab m g
tab_by {A} {n} {m} {f} e l i = e ∙ ap (λ n. tab n f) l ∙ tab_cong m i

-- what a pass over the first n places of a list leaves
pub first_by : {n : ℕ} (xs : List ℕ) {ys : List ℕ} {f g : ℕ → ℕ} → ys ≡ tab (length (take n xs)) f → n ≤ length xs
    → ((c : ℕ) → c < n → f c ≡ g c) → ys ++ drop n xs ≡ tab n g ++ drop n xs
first_by {n} xs e l i = ap (λ ys. ys ++ drop n xs) (tab_by e (length-take-le n xs l) i)
