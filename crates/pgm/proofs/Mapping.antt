-- The mapping from pixels to samples of the picture: its value from a raised pixel, its order, and its exactness.
-- Assumes nothing.
use Rattle.std.proofs.Common.{ℕ, suc, ◌+◌, ◌-◌, ◌*◌, ◌/◌, ◌^◌, ◌≤◌, ◌<◌, min, arith, ◌≡◌, sym, ap, ◌∙◌, subst, true, List, [], ◌∷◌, ◌++◌, append_assoc, T, leb, leb→le, length, get_or, set, drop, length-append, drop-cons, ℤ}
use Rattle.std.proofs.Math.Facts.{and_yes}
use Rattle.std.proofs.Math.Seq.{set_at}
use Rattle.arith.specs.Diff.{Diff}
use Rattle.arith.specs.Tab.{tab, grid}
use Rattle.arith.proofs.Ints.{diff_pos, diff_add, diff_pos_part}
use Rattle.arith.proofs.Passes.{grid-suc, length-grid}
use Rattle.pgm.specs.Shade.{shade, word_good}

pub word_range : (w : ℕ) → word_good w ≡ true → (8 ≤ w) × (w ≤ 32)
unfolding word_good
word_range w e =
    let t = and_yes (leb 8 w) (leb w 32) (subst T (sym e) tt) in (leb→le 8 w t.0, leb→le w 32 t.1)

-- a pixel that is b - 2^31, in a word that begins at f - 2^31
pub shade_is :
    (w f : ℕ) {z : ℤ} {b : ℕ} → f + 2 ^ (w - 1) ≡ 2147483648 → Diff z b 2147483648 → shade w z ≡ min 65535 ((b - f) / 2 ^ (w - 16))
unfolding shade
shade_is w f {z} {b} h d =
    let e = diff_pos_part (diff_add d (diff_pos (2 ^ (w - 1)))) in
    let k : b + 2 ^ (w - 1) - (2147483648 + 0) ≡ b - f = omega arith in
    ap (λ x. min 65535 (x / 2 ^ (w - 16))) (e ∙ k)

module _ {A : Type 0} where
  -- two places more of a pass over lines of two
  pub two_set :
      (k : ℕ) (f : ℕ → ℕ → A) (xs : List A) (d : A) → k * 2 + 1 < length xs
      → set (set (grid k 2 f ++ drop (k * 2) xs) (k * 2) (f k 0)) (k * 2 + 1) (f k 1) ≡ grid (suc k) 2 f ++ drop (suc k * 2) xs
  unfolding tab
  two_set k f xs d h =
      let g = grid k 2 f in
      let l : length g ≡ k * 2 = length-grid k 2 f in
      let p : k * 2 + 1 ≡ suc (k * 2) = omega arith in
      let q : suc k * 2 ≡ suc (suc (k * 2)) = omega arith in
      let rest = drop (suc (suc (k * 2))) xs in
      let n : length (g ++ (f k 0 ∷ [])) ≡ suc (k * 2) = (let m = length-append g (f k 0 ∷ []) in omega arith) in
      rw (p, q, drop-cons xs (k * 2) d (omega arith), drop-cons xs (suc (k * 2)) d (omega arith), grid-suc k 2 f)
      (ap (λ ys. set ys (suc (k * 2)) (f k 1))
      (set_at g (get_or xs (k * 2) d) (get_or xs (suc (k * 2)) d ∷ rest) (f k 0) (k * 2) l
      ∙ sym (append_assoc g (f k 0 ∷ []) (get_or xs (suc (k * 2)) d ∷ rest)))
      ∙ set_at (g ++ (f k 0 ∷ [])) (get_or xs (suc (k * 2)) d) rest (f k 1) (suc (k * 2)) n
      ∙ append_assoc g (f k 0 ∷ []) (f k 1 ∷ rest)
      ∙ sym (append_assoc g (f k 0 ∷ f k 1 ∷ []) rest))
