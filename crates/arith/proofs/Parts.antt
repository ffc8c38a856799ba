-- Parts of a slice that are lent, and come back.
-- Assumes nothing.
use Rattle.std.proofs.Common.{ℕ, ◌+◌, ◌-◌, ◌*◌, ◌≤◌, ◌<◌, arith, le_of_eq, le_refl, mul-le-mul, ◌≡◌, sym, ap, ◌∙◌, List, ◌++◌, append-nil, append_assoc, length, get_or, take, drop, replicate, length-drop, drop_of_length-le, take-append-drop, take_all, take-add, drop-drop, get_or-take, get_or-drop, length-take-le}
use Rattle.std.proofs.Math.ListN.{length-replicate, get_or-replicate}
use borrow.Rule.Slice.PartMut.{put_mid}
use Rattle.arith.specs.Tab.{tab, paste}
use Rattle.arith.proofs.Tabs.{tab_cong, tab-get_or}

module _ {A : Type 0} where
  -- `&s[a..]` is what lies from a on
  pub tail_is : (a : ℕ) (xs : List A) → take (length xs - a) (drop a xs) ≡ drop a xs
  tail_is a xs = take_all (length xs - a) (drop a xs) (le_of_eq (length-drop a xs))

  -- `&mut s[a..]`, come back at ys
  pub tail_back : (a : ℕ) (xs ys : List A) → put_mid a (length xs - a) xs ys ≡ take a xs ++ ys
  tail_back a xs ys =
      ap (λ l. take a xs ++ (ys ++ l)) (drop_of_length-le (drop a xs) {i = length xs - a} (le_of_eq (length-drop a xs)))
      ∙ ap (λ l. take a xs ++ l) (append-nil ys)

-- `&s[0..l]`, the first l places
pub first_tab : (n l : ℕ) (xs : List ℕ) → n ≡ l → l ≤ length xs → take n xs ≡ tab l (λ c. get_or xs c 0)
first_tab n l xs e h =
    ap (λ m. take m xs) e ∙ sym (tab-get_or (take l xs) l 0 (length-take-le l xs h)) ∙ tab_cong l (λ c i. get_or-take l xs c 0 i)

-- `&s[p..p + l]`, the l places from place p on
module _ (p l : ℕ) (xs : List ℕ) where
  abbrev pub part : List ℕ
  part = take (p + l - p) (drop p xs)

  pub part_at : (c : ℕ) → c < l → get_or part c 0 ≡ get_or xs (p + c) 0
  part_at c h =
      let e : p + l - p ≡ l = omega arith in
      rw e (get_or-take l (drop p xs) c 0 h ∙ get_or-drop p xs c 0)

  pub part_length : p + l ≤ length xs → length part ≡ l
  part_length h =
      let d = length-drop p xs in
      length-take-le (p + l - p) (drop p xs) (omega arith) ∙ omega arith

  pub part-tab : p + l ≤ length xs → part ≡ tab l (λ c. get_or xs (p + c) 0)
  part-tab h = sym (tab-get_or part l 0 (part_length h)) ∙ tab_cong l part_at

-- line k of n lines of l places
pub line_end_lem : (k n l long : ℕ) → k < n → n * l ≤ long → k * l + l ≤ long
line_end_lem k n l long h g = let m = mul-le-mul h (le_refl l) in omega arith

module _ {A : Type 0} (p l : ℕ) (xs : List A) where
  -- `&s[p..p + l]` is l places from p on
  pub part_is : take (p + l - p) (drop p xs) ≡ take l (drop p xs)
  part_is = let e : p + l - p ≡ l = omega arith in ap (λ k. take k (drop p xs)) e

  pub part_long : p + l ≤ length xs → length (take l (drop p xs)) ≡ l
  part_long h = length-take-le l (drop p xs) (let e = length-drop p xs in omega arith)

  -- `&mut s[p..p + l]`, come back at ys
  pub part_back : (ys : List A) → length ys ≡ l → put_mid p (p + l - p) xs ys ≡ paste p ys xs
  unfolding paste
  part_back ys e =
      let f : p + l - p ≡ l = omega arith in
      rw (f, e, drop-drop l p xs) (sym (append_assoc (take p xs) ys (drop (p + l) xs)))

  -- put back as it was
  pub paste_own : p + l ≤ length xs → paste p (take l (drop p xs)) xs ≡ xs
  unfolding paste
  paste_own h = rw (part_long h, sym (take-add p l xs)) (take-append-drop (p + l) xs)

-- the first places of a line of zeros
pub zeros_part : (l n : ℕ) → l ≤ n → take {A = ℕ} (l - 0) (replicate n 0) ≡ tab l (λ k. 0)
zeros_part l n h =
    first_tab (l - 0) l (replicate n 0) (omega arith) (rw (length-replicate {A = ℕ} n 0) h) ∙ tab_cong l (λ k i. get_or-replicate n k 0 0 (omega arith))
