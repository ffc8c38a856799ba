-- Laws of `tab`.
-- Assumes nothing.
use Rattle.std.proofs.Common.{ℕ, zero, suc, ◌+◌, ◌<◌, lt-suc_self, not-suc-le-zero, add-zero, arith, ◌≡◌, refl, sym, ap, ◌∙◌, ⊎_elim, ◌≢◌, List, [], ◌∷◌, ◌++◌, append_assoc, append-nil, length, get_or, set, length-append, length-set, ext_get_or, get_or-set_same, get_or-set_other}
use Rattle.std.proofs.Math.Nat.{le_step, le-suc_iff, suc_inj}
use Rattle.std.proofs.Math.ListN.{get_or-append}
use Rattle.std.proofs.Math.Seq.{get_or-append_seam, get_or_at}
use native.Mathlib.Decide.{ℕ_discrete}
use Rattle.arith.specs.Tab.{tab}

module _ {ℓ} {A : Type ℓ} where
  pub tab-suc : (n : ℕ) (f : ℕ → A) → tab (suc n) f ≡ tab n f ++ (f n ∷ [])
  unfolding tab
  tab-suc n f = refl

  pub length-tab : (n : ℕ) (f : ℕ → A) → length (tab n f) ≡ n
  unfolding tab
  length-tab zero f = refl
  length-tab (suc n) f = let p = length-tab n f in length-append (tab n f) (f n ∷ []) ∙ omega arith

  pub get_or-tab : (n : ℕ) (f : ℕ → A) (k : ℕ) (d : A) → k < n → get_or (tab n f) k d ≡ f k
  unfolding tab
  get_or-tab zero f k d h = absurd (not-suc-le-zero h)
  get_or-tab (suc n) f k d h =
      let l = length-tab n f in
      ⊎_elim (λ (p : k < n). get_or-append (tab n f) (f n ∷ []) d k (omega arith) ∙ get_or-tab n f k d p)
      (λ (e : suc k ≡ suc n). get_or_at (tab n f) (f n) [] d k (omega arith) ∙ ap f (sym (suc_inj e)))
      (le-suc_iff.0 h)

  pub tab_cong : (n : ℕ) {f g : ℕ → A} → ((k : ℕ) → k < n → f k ≡ g k) → tab n f ≡ tab n g
  unfolding tab
  tab_cong zero h = refl
  tab_cong (suc n) {f} {g} h = ap (λ l. l ++ (f n ∷ [])) (tab_cong n (λ k p. h k (le_step p))) ∙ ap (λ x. tab n g ++ (x ∷ [])) (h n (lt-suc_self n))

  -- an element more changes no other place
  pub get_or_snoc : (l : List A) (a d : A) (k : ℕ) → k ≢ length l → get_or (l ++ (a ∷ [])) k d ≡ get_or l k d
  get_or_snoc [] a d zero n = absurd (n refl)
  get_or_snoc [] a d (suc k) n = refl
  get_or_snoc (x ∷ l) a d zero n = refl
  get_or_snoc (x ∷ l) a d (suc k) n = get_or_snoc l a d k (λ e. n (ap suc e))

  -- a list is the table of its elements
  pub tab-get_or : (l : List A) (n : ℕ) (d : A) → length l ≡ n → tab n (λ k. get_or l k d) ≡ l
  tab-get_or l n d e =
      ext_get_or d _ l (length-tab n _ ∙ sym e) (λ k h. get_or-tab n _ k d (let p = length-tab n (λ k. get_or l k d) in omega arith))

  -- a list in a table of m slots, the rest of them d: one element more goes into the first free slot
  pub tab_snoc : (m : ℕ) (l : List A) (a d : A) → length l < m
      → set (tab m (λ k. get_or l k d)) (length l) a ≡ tab m (λ k. get_or (l ++ (a ∷ [])) k d)
  tab_snoc m l a d h =
      ext_get_or d _ _ (length-set (tab m (λ k. get_or l k d)) (length l) a ∙ length-tab m _ ∙ sym (length-tab m _)) λ k p. same k
      (let e = length-set (tab m (λ k. get_or l k d)) (length l) a in let f = length-tab m (λ k. get_or l k d) in omega arith)
    where
      same : (k : ℕ) → k < m → get_or (set (tab m (λ k. get_or l k d)) (length l) a) k d ≡ get_or (tab m (λ k. get_or (l ++ (a ∷ [])) k d)) k d
      same k p = elim (ℕ_discrete k (length l)) [
        | yes e ↦ rw e (get_or-set_same (tab m (λ k. get_or l k d)) (length l) a d (let f = length-tab m (λ k. get_or l k d) in omega arith)
            ∙ sym (get_or-tab m _ (length l) d h ∙ get_or-append_seam l a [] d))
        | no n ↦ get_or-set_other (tab m (λ k. get_or l k d)) (length l) k a d n ∙ get_or-tab m _ k d p
            ∙ sym (get_or-tab m _ k d p ∙ get_or_snoc l a d k n)
      ]

  -- one list after the other
  pub tab-append : (m n : ℕ) (f : ℕ → A) → tab (m + n) f ≡ tab m f ++ tab n (λ k. f (m + k))
  unfolding tab
  tab-append m zero f = rw (add-zero m) (sym (append-nil (tab m f)))
  tab-append m (suc n) f =
      let e : m + suc n ≡ suc (m + n) = omega arith in
      ap (λ k. tab k f) e ∙ ap (λ l. l ++ (f (m + n) ∷ [])) (tab-append m n f) ∙ append_assoc (tab m f) (tab n (λ k. f (m + k))) (f (m + n) ∷ [])
