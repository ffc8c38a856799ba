-- A pass over a list: the first n places hold f 0 to f (n - 1), the others what they held.
-- Assumes nothing.
use Rattle.std.proofs.Common.{ℕ, zero, suc, ◌+◌, ◌-◌, ◌*◌, ◌≤◌, ◌<◌, zero-le, le_of_eq, add-one, arith, ◌≡◌, refl, sym, ap, ◌∙◌, List, [], ◌∷◌, ◌++◌, append_assoc, append-nil, length, get_or, set, drop, length-append, length-drop, length-set, drop_of_length-le, drop-cons, get_or-append-add, get_or-drop, take_at, drop_at, drop-drop}
use Rattle.std.proofs.Math.ListN.{get_or-append}
use Rattle.std.proofs.Math.Seq.{set_at}
use borrow.Rule.Slice.PartMut.{put_mid}
use Rattle.arith.specs.Tab.{tab, grid}
use Rattle.arith.proofs.Tabs.{tab-suc, length-tab, get_or-tab, tab_cong}

module _ {A : Type 0} where
  pass_none : (f : ℕ → A) (xs : List A) → xs ≡ tab 0 f ++ drop 0 xs
  unfolding tab
  pass_none f xs = refl

  pub pass_length : (n : ℕ) (f : ℕ → A) (xs : List A) → n ≤ length xs → length (tab n f ++ drop n xs) ≡ length xs
  pass_length n f xs h =
      let a = length-append (tab n f) (drop n xs) in
      let b = length-tab n f in
      let c = length-drop n xs in
      omega arith

  -- a place that the pass has not reached
  pub pass_next : (n : ℕ) (f : ℕ → A) (xs : List A) (k : ℕ) (d : A) → n ≤ k → get_or (tab n f ++ drop n xs) k d ≡ get_or xs k d
  pass_next n f xs k d h =
      let l = length-tab n f in
      let e : k ≡ length (tab n f) + (k - n) = omega arith in
      let m : n + (k - n) ≡ k = omega arith in
      ap (λ i. get_or (tab n f ++ drop n xs) i d) e ∙ get_or-append-add (tab n f) (drop n xs) (k - n) d
      ∙ get_or-drop n xs (k - n) d ∙ ap (λ i. get_or xs i d) m

  -- a place that it has passed
  pub pass_done : (n : ℕ) (f : ℕ → A) (xs : List A) (k : ℕ) (d : A) → k < n → get_or (tab n f ++ drop n xs) k d ≡ f k
  pass_done n f xs k d h =
      let l = length-tab n f in get_or-append (tab n f) (drop n xs) d k (omega arith) ∙ get_or-tab n f k d h

  -- one place more
  pass_set :
      (n : ℕ) (f : ℕ → A) (xs : List A) (d : A) → n < length xs → set (tab n f ++ drop n xs) n (f n) ≡ tab (suc n) f ++ drop (suc n) xs
  pass_set n f xs d h =
      rw (drop-cons xs n d h, tab-suc n f)
      (set_at (tab n f) (get_or xs n d) (drop (suc n) xs) (f n) n (length-tab n f)
      ∙ sym (append_assoc (tab n f) (f n ∷ []) (drop (suc n) xs)))

  -- a pass over the whole of a list
  pub pass_whole : (n : ℕ) (xs : List A) {f g : ℕ → A} → length xs ≡ n → ((c : ℕ) → c < n → f c ≡ g c) → tab n f ++ drop n xs ≡ tab n g
  pass_whole n xs {f} e h =
      ap (λ l. tab n f ++ l) (drop_of_length-le xs {i = n} (le_of_eq e)) ∙ append-nil (tab n f) ∙ tab_cong n h

  -- one pass after another, over the same places
  pub pass_again : (n : ℕ) (f g : ℕ → A) (xs : List A) {ys : List A} → ys ≡ tab n f ++ drop n xs → tab n g ++ drop n ys ≡ tab n g ++ drop n xs
  pass_again n f g xs e = ap (λ l. tab n g ++ l) (ap (drop n) e ∙ drop_at (tab n f) (drop n xs) n (length-tab n f))

  -- c of n places of xs are done, and ys is what stands there now: the invariant of a loop over a store, with its three laws (none
  -- done, one more, all done)
  pub record Pass (n : ℕ) (f : ℕ → A) (xs : List A) (c : ℕ) (ys : List A) : Type 0 where
    pub count : c ≤ n
    pub room : n ≤ length xs
    pub long : length ys ≡ length xs
    pub is : ys ≡ tab c f ++ drop c xs

  pub none_done : (n : ℕ) (f : ℕ → A) (xs : List A) → n ≤ length xs → Pass n f xs 0 xs
  none_done n f xs h = record { count = zero-le; room = h; long = refl; is = pass_none f xs }

  module _ {n : ℕ} {f : ℕ → A} {xs : List A} {c : ℕ} {ys : List A} (p : Pass n f xs c ys) where
    pub one_more : {x : A} → c < n → x ≡ f c → Pass n f xs (c + 1) (set ys c x)
    one_more {x} h e =
        record {
          count = omega arith;
          room = p.room;
          long = length-set ys c x ∙ p.long;
          is = rw (p.is, e, add-one c) (pass_set c f xs x (let r = p.room in omega arith));
        }

    pub all_done : n ≤ c → ys ≡ tab n f ++ drop n xs
    all_done h = let e : c ≡ n = let m = p.count in omega arith in p.is ∙ ap (λ k. tab k f ++ drop k xs) e

    -- the place that comes next holds what it held
    pub next_place : (d : A) → get_or ys c d ≡ get_or xs c d
    next_place d = ap (λ l. get_or l c d) p.is ∙ pass_next c f xs c d (omega arith)

  pub length-grid : (k l : ℕ) (f : ℕ → ℕ → A) → length (grid k l f) ≡ k * l
  unfolding grid
  length-grid zero l f = omega arith
  length-grid (suc k) l f =
      let a = length-append (grid k l f) (tab l (f k)) in
      let b = length-grid k l f in
      let c = length-tab l (f k) in
      omega arith

  pub grid-suc : (k l : ℕ) (f : ℕ → ℕ → A) → grid (suc k) l f ≡ grid k l f ++ tab l (f k)
  unfolding grid
  grid-suc k l f = refl

  pub grid_none : (l : ℕ) (f : ℕ → ℕ → A) (xs : List A) → xs ≡ grid 0 l f ++ drop 0 xs
  unfolding grid
  grid_none l f xs = refl

  -- the lines that a pass of whole lines has not reached
  pub grid_rest : (k l : ℕ) (f : ℕ → ℕ → A) (xs : List A) → drop (k * l) (grid k l f ++ drop (k * l) xs) ≡ drop (k * l) xs
  grid_rest k l f xs = drop_at (grid k l f) (drop (k * l) xs) (k * l) (length-grid k l f)

  -- line k is lent, and comes back as f k
  pub grid_line :
      (k l : ℕ) (f : ℕ → ℕ → A) (xs ys : List A) → ys ≡ tab l (f k)
      → put_mid (k * l) l (grid k l f ++ drop (k * l) xs) ys ≡ grid (suc k) l f ++ drop (suc k * l) xs
  grid_line k l f xs ys e =
      let m : k * l + l ≡ suc k * l = omega arith in
      rw (take_at (grid k l f) (drop (k * l) xs) (k * l) (length-grid k l f), grid_rest k l f xs, drop-drop l (k * l) xs, m, e, grid-suc k l f)
      (sym (append_assoc (grid k l f) (tab l (f k)) (drop (suc k * l) xs)))
