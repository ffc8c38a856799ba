-- A list pasted over another.
-- Assumes nothing.
use Rattle.std.proofs.Common.{ℕ, ◌+◌, ◌-◌, ◌≤◌, ◌<◌, arith, ◌≡◌, ap, ◌∙◌, List, ◌++◌, length, get_or, take, drop, length-append, length-drop, get_or-append-add, get_or-take, get_or-drop, length-take-le}
use Rattle.std.proofs.Math.ListN.{get_or-append}
use Rattle.arith.specs.Tab.{paste}

-- before what is pasted, in it, and after it
module _ (p : ℕ) (xs ys : List ℕ) (h : p + length xs ≤ length ys) where
  front : length (take p ys) ≡ p
  front = length-take-le p ys (omega arith)

  pub paste-length : length (paste p xs ys) ≡ length ys
  unfolding paste
  paste-length =
      let f = front in
      let a = length-append (take p ys ++ xs) (drop (p + length xs) ys) in
      let b = length-append (take p ys) xs in
      let c = length-drop (p + length xs) ys in
      omega arith

  pub paste_before : (k : ℕ) → k < p → get_or (paste p xs ys) k 0 ≡ get_or ys k 0
  unfolding paste
  paste_before k l =
      let f = front in
      let n = length-append (take p ys) xs in
      get_or-append (take p ys ++ xs) (drop (p + length xs) ys) 0 k (omega arith)
      ∙ get_or-append (take p ys) xs 0 k (omega arith) ∙ get_or-take p ys k 0 l

  pub paste_in : (k : ℕ) → k < length xs → get_or (paste p xs ys) (p + k) 0 ≡ get_or xs k 0
  unfolding paste
  paste_in k l =
      let f = front in
      let n = length-append (take p ys) xs in
      let e : p + k ≡ length (take p ys) + k = omega arith in
      get_or-append (take p ys ++ xs) (drop (p + length xs) ys) 0 (p + k) (omega arith)
      ∙ ap (λ i. get_or (take p ys ++ xs) i 0) e ∙ get_or-append-add (take p ys) xs k 0

  pub paste_after : (k : ℕ) → p + length xs ≤ k → get_or (paste p xs ys) k 0 ≡ get_or ys k 0
  unfolding paste
  paste_after k l =
      let f = front in
      let n = length-append (take p ys) xs in
      let e : k ≡ length (take p ys ++ xs) + (k - (p + length xs)) = omega arith in
      let m : p + length xs + (k - (p + length xs)) ≡ k = omega arith in
      ap (λ i. get_or (paste p xs ys) i 0) e ∙ get_or-append-add (take p ys ++ xs) (drop (p + length xs) ys) (k - (p + length xs)) 0
      ∙ get_or-drop (p + length xs) ys (k - (p + length xs)) 0 ∙ ap (λ i. get_or ys i 0) m
