-- A store of whole lines: what a pass over lines has reached, and what not.
-- Assumes nothing.
use Rattle.std.proofs.Common.{ℕ, zero, suc, ◌+◌, ◌-◌, ◌*◌, ◌≤◌, ◌<◌, lt-suc_self, not-suc-le-zero, zero-mul, add-one, arith, ◌≡◌, refl, sym, ap, ap₂, ◌∙◌, ⊎_elim, List, ◌++◌, append_assoc, length, get_or, take, drop, length-append, length-drop, get_or-append-add, get_or-drop, take_at, drop_at, drop-drop}
use Rattle.std.proofs.Math.Nat.{le_step, le-suc_iff, suc_inj}
use Rattle.std.proofs.Math.ListN.{get_or-append}
use borrow.Rule.Slice.PartMut.{put_mid, put_same}
use Rattle.arith.specs.Tab.{tab, grid, paste}
use Rattle.arith.proofs.Tabs.{tab_cong, get_or-tab, length-tab}
use Rattle.arith.proofs.Passes.{length-grid, grid-suc, grid_none, grid_line, pass_whole}
use Rattle.arith.proofs.Parts.{part, part_length, part-tab}

-- a line that a pass of whole lines has not reached
pub grid_next : (k l : ℕ) (f : ℕ → ℕ → ℕ) (xs : List ℕ) (c : ℕ) → get_or (grid k l f ++ drop (k * l) xs) (k * l + c) 0 ≡ get_or xs (k * l + c) 0
grid_next k l f xs c =
    let e : k * l + c ≡ length (grid k l f) + c = let n = length-grid k l f in omega arith in
    ap (λ i. get_or (grid k l f ++ drop (k * l) xs) i 0) e ∙ get_or-append-add (grid k l f) (drop (k * l) xs) c 0 ∙ get_or-drop (k * l) xs c 0

module _ {A : Type 0} where
  -- a pass of whole lines keeps the length
  pub grid_long : (k l : ℕ) (f : ℕ → ℕ → A) (xs : List A) → k * l ≤ length xs → length (grid k l f ++ drop (k * l) xs) ≡ length xs
  grid_long k l f xs h =
      let a = length-append (grid k l f) (drop (k * l) xs) in
      let b = length-grid k l f in
      let c = length-drop (k * l) xs in
      omega arith

  -- place c of line k
  pub grid_at_lem : (n l : ℕ) (f : ℕ → ℕ → A) (rest : List A) (d : A) (k c : ℕ) → k < n → c < l → get_or (grid n l f ++ rest) (k * l + c) d ≡ f k c
  grid_at_lem zero l f rest d k c h i = absurd (not-suc-le-zero h)
  grid_at_lem (suc n) l f rest d k c h i =
      ap (λ xs. get_or xs (k * l + c) d) (ap (λ xs. xs ++ rest) (grid-suc n l f) ∙ append_assoc (grid n l f) (tab l (f n)) rest)
      ∙ ⊎_elim (grid_at_lem n l f (tab l (f n) ++ rest) d k c) (λ (e : suc k ≡ suc n). last (suc_inj e)) (le-suc_iff.0 h) i
    where
      last : k ≡ n → c < l → get_or (grid n l f ++ (tab l (f n) ++ rest)) (k * l + c) d ≡ f k c
      last e j =
          let m = length-grid n l f in
          let w = length-tab l (f n) in
          let q : n * l + c ≡ length (grid n l f) + c = omega arith in
          rw e (ap (λ p. get_or (grid n l f ++ (tab l (f n) ++ rest)) p d) q ∙ get_or-append-add (grid n l f) (tab l (f n) ++ rest) c d
          ∙ get_or-append (tab l (f n)) rest d c (omega arith) ∙ get_or-tab l (f n) c d j)

  pub grid_cong : (n l : ℕ) {f g : ℕ → ℕ → A} → ((k c : ℕ) → k < n → c < l → f k c ≡ g k c) → grid n l f ≡ grid n l g
  unfolding grid
  grid_cong zero l h = refl
  grid_cong (suc n) l h = ap₂ ◌++◌ (grid_cong n l (λ k c p q. h k c (le_step p) q)) (tab_cong l (λ c q. h n c (lt-suc_self n) q))

  -- one line more, pasted after those there are
  pub grid-paste : (k l : ℕ) (f : ℕ → ℕ → A) (xs : List A) → paste (k * l) (tab l (f k)) (grid k l f ++ drop (k * l) xs) ≡ grid (suc k) l f ++ drop (suc k * l) xs
  unfolding paste
  grid-paste k l f xs =
      let n = length-grid k l f in
      let m = length-tab l (f k) in
      let e : k * l + length (tab l (f k)) ≡ k * l + l = ap (λ i. k * l + i) m in
      let s : k * l + l ≡ suc k * l = omega arith in
      let b : drop (k * l + l) (grid k l f ++ drop (k * l) xs) ≡ drop (suc k * l) xs =
      sym (drop-drop l (k * l) (grid k l f ++ drop (k * l) xs)) ∙ ap (drop l) (drop_at (grid k l f) (drop (k * l) xs) (k * l) n) ∙ drop-drop l (k * l) xs ∙ ap (λ i. drop i xs) s in
      ap (λ i. take (k * l) (grid k l f ++ drop (k * l) xs) ++ tab l (f k) ++ drop i (grid k l f ++ drop (k * l) xs)) e
      ∙ ap₂ (λ a c. a ++ tab l (f k) ++ c) (take_at (grid k l f) (drop (k * l) xs) (k * l) n) b
      ∙ ap (λ g. g ++ drop (suc k * l) xs) (sym (grid-suc k l f))

-- a pass that writes what stands there
pub grid_own : (n l : ℕ) (xs : List ℕ) → n * l ≤ length xs → grid n l (λ k c. get_or xs (k * l + c) 0) ++ drop (n * l) xs ≡ xs
grid_own zero l xs h = rw (zero-mul l) (sym (grid_none l _ xs))
grid_own (suc n) l xs h =
    let f : ℕ → ℕ → ℕ = λ k c. get_or xs (k * l + c) 0 in
    let e : n * l + l - n * l ≡ l = omega arith in
    sym (grid_line n l f xs (tab l (f n)) refl) ∙ ap (λ ys. put_mid (n * l) l ys (tab l (f n))) (grid_own n l xs (omega arith))
    ∙ ap (put_mid (n * l) l xs) (sym (rw e at (part-tab (n * l) l xs (omega arith)))) ∙ put_same (n * l) l xs

-- one line more
pub next_line : (k l : ℕ) (f : ℕ → ℕ → ℕ) (xs : List ℕ) {now : List ℕ} {g : ℕ → ℕ} → now ≡ grid k l f ++ drop (k * l) xs → ((c : ℕ) → g c ≡ f k c)
    → put_mid (k * l) l now (tab l g) ≡ grid (k + 1) l f ++ drop ((k + 1) * l) xs
next_line k l f xs {now} {g} e h =
    rw (add-one k) (ap (λ ys. put_mid (k * l) l ys (tab l g)) e ∙ grid_line k l f xs (tab l g) (tab_cong l (λ c i. h c)))

-- a line that is lent, `&mut s[p..p + l]`, and comes back from a pass over it
pub line_written : (p l : ℕ) (xs : List ℕ) {ys : List ℕ} {f g : ℕ → ℕ} → p + l ≤ length xs → ys ≡ tab l f ++ drop l (part p l xs)
    → ((c : ℕ) → c < l → f c ≡ g c) → put_mid p (p + l - p) xs ys ≡ put_mid p l xs (tab l g)
line_written p l xs h e i =
    let n : p + l - p ≡ l = omega arith in
    ap₂ (λ j ys. put_mid p j xs ys) n (e ∙ pass_whole l (part p l xs) (part_length p l xs h) i)
