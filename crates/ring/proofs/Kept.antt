-- The sample store of a scan: the last 32 arrivals, each in its place.
-- Assumes nothing.
use Rattle.std.proofs.Common.{ℕ, suc, ◌+◌, ◌*◌, ◌%◌, ◌≤◌, ◌<◌, mod-lt, mul-le-mul_right, not-suc-le-zero, lt_irrefl, eq-or-lt_of_le, add-one, arith, ◌≡◌, refl, sym, ap, ◌∙◌, subst, Bool, true, false, not, cond, ⊎_elim, List, T, ltb, eqb, ltb→lt, nltb→le, ℤ, pos, negsuc, length, get_or, eq-eqb, ne_eqb}
use Rattle.std.proofs.Math.Nat.{div-add-mod, le-suc_iff, suc_inj}
use Rattle.arith.specs.Tab.{paste}
use Rattle.arith.proofs.Pastes.{paste_before, paste_in, paste_after}
use Rattle.ring.specs.Ring.{row_at, Kept}

-- a row's place ends within 32 rows
pub place_end : (e l : ℕ) → e % 32 * l + l ≤ 32 * l
place_end e l =
    let h : e % 32 ≤ 31 = let m = mod-lt e {m = 32} in omega arith in
    let p = mul-le-mul_right l h in
    omega arith

pub kept_none : (l : ℕ) (x : ℤ → ℤ → ℕ) (samples : List ℕ) → Kept l x 0 samples
unfolding Kept
kept_none l x samples e c h = absurd (not-suc-le-zero h)

-- one arrival more
pub kept_next :
    (l : ℕ) (x : ℤ → ℤ → ℕ) (a : ℕ) (row samples : List ℕ) → length row ≡ l → 32 * l ≤ length samples
    → ((c : ℕ) → c < l → get_or row c 0 ≡ x (pos a) (pos c)) → Kept l x a samples → Kept l x (a + 1) (paste (a % 32 * l) row samples)
unfolding Kept
kept_next l x a row samples n long is kept e c h m lc =
    ⊎_elim older (λ (q : suc e ≡ suc a). newest (suc_inj q)) (le-suc_iff.0 (subst (λ k. e < k) (add-one a) h))
  where
    room : a % 32 * l + length row ≤ length samples
    room = let p = place_end a l in omega arith

    newest : e ≡ a → get_or (paste (a % 32 * l) row samples) (e % 32 * l + c) 0 ≡ x (pos e) (pos c)
    newest q = rw q (paste_in (a % 32 * l) row samples room c (omega arith) ∙ is c lc)

    -- its place lies before or after the new one
    place :
        (b : Bool) → (T b → e % 32 < a % 32) → (T (not b) → a % 32 ≤ e % 32) → e < a
        → get_or (paste (a % 32 * l) row samples) (e % 32 * l + c) 0 ≡ get_or samples (e % 32 * l + c) 0
    place true f g q = paste_before (a % 32 * l) row samples room (e % 32 * l + c) (let p = mul-le-mul_right l (f tt) in omega arith)
    place false f g q =
        let u = div-add-mod e 32 in
        let v = div-add-mod a 32 in
        let w = g tt in
        let b : a % 32 < e % 32 = omega arith in
        paste_after (a % 32 * l) row samples room (e % 32 * l + c) (let p = mul-le-mul_right l b in omega arith)

    older : e < a → get_or (paste (a % 32 * l) row samples) (e % 32 * l + c) 0 ≡ x (pos e) (pos c)
    older q = place (ltb (e % 32) (a % 32)) (ltb→lt (e % 32) (a % 32)) (nltb→le (e % 32) (a % 32)) q ∙ kept e c q (omega arith) lc

-- the rows that are read are the scan's
pub row_is :
    (l : ℕ) (x : ℤ → ℤ → ℕ) (a : ℕ) (row samples : List ℕ) → ((i c : ℕ) → x (negsuc i) (pos c) ≡ 0)
    → ((c : ℕ) → c < l → get_or row c 0 ≡ x (pos a) (pos c)) → Kept l x a samples
    → (z : ℤ) → ((e : ℕ) → z ≡ pos e → (e ≤ a) × (a ≤ e + 31)) → (c : ℕ) → c < l → row_at l a row samples z c ≡ x z (pos c)
unfolding row_at Kept
row_is l x a row samples none is kept (negsuc i) near c h = sym (none i c)
row_is l x a row samples none is kept (pos e) near c h = ⊎_elim same older (eq-or-lt_of_le (near e refl).0)
  where
    same : e ≡ a → cond (eqb e a) (get_or row c 0) (get_or samples (e % 32 * l + c) 0) ≡ x (pos e) (pos c)
    same q = rw (eq-eqb e a q) (is c h ∙ ap (λ k. x (pos k) (pos c)) (sym q))

    older : e < a → cond (eqb e a) (get_or row c 0) (get_or samples (e % 32 * l + c) 0) ≡ x (pos e) (pos c)
    older q = rw (ne_eqb e a (λ p. lt_irrefl a (subst (λ k. k < a) p q))) (kept e c q (let n = (near e refl).1 in omega arith) h)
