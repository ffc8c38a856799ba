-- Laws of the questions.
-- Assumes nothing.
use Rattle.std.proofs.Common.{ℕ, ◌+◌, ◌-◌, ◌*◌, ◌/◌, ◌^◌, ◌≤◌, ◌<◌, zero-le, mul-le-mul, arith, ◌≡◌, sym, subst, Bool, true, false, not, cond, ◌&&◌, List, length, get_or, pos, negsuc, T, leb, ltb, eqb, leb→le, ltb→lt, nltb→le, eqb→eq}
use Rattle.std.proofs.Math.ListN.{get_or-eq_default}
use Rattle.std.proofs.Math.Facts.{and_yes}
use Rattle.arith.specs.All.{all}
use Rattle.arith.proofs.Alls.{all_at}
use Rattle.rule.specs.Mended.{mended_at}
use Rattle.rule.specs.Questions.{width_good, height_good, place_good, sample_good}
use Rattle.rule.specs.Sums.{HasBits, sample_at}
use Rattle.rule.proofs.Mended.{small_good, mended_most}

pub width_bounds : {l : ℕ} → width_good l ≡ true → (1 ≤ l) × (l ≤ 1024)
unfolding width_good
width_bounds {l} e = let h = and_yes (leb 1 l) (leb l 1024) (subst T (sym e) tt) in (leb→le 1 l h.0, leb→le l 1024 h.1)

-- a scan that questions 12 and 17 accept has H rows, and is no longer than 1,024 by 65,535
pub record HeightBounds (l n : ℕ) : Type 0 where
  pub whole : n ≡ l * (n / l)
  pub least : 1 ≤ n / l
  pub most : n / l ≤ 65535
  pub few : n ≤ 67107840

pub height_bounds : {l n : ℕ} → width_good l ≡ true → height_good l n ≡ true → HeightBounds l n
unfolding height_good
height_bounds {l} {n} w e =
    let a = and_yes (eqb n (l * (n / l))) (leb 1 (n / l) && leb (n / l) 65535) (subst T (sym e) tt) in
    let b = and_yes (leb 1 (n / l)) (leb (n / l) 65535) a.1 in
    let h = eqb→eq n (l * (n / l)) a.0 in
    let m = leb→le (n / l) 65535 b.1 in
    let p = mul-le-mul (width_bounds w).1 m in
    record { whole = h; least = leb→le 1 (n / l) b.0; most = m; few = omega arith }

pub place_bounds : (l n r c : ℕ) → place_good l n r c ≡ true → (r < n / l) × (c < l)
unfolding place_good
place_bounds l n r c e = let h = and_yes (ltb r (n / l)) (ltb c l) (subst T (sym e) tt) in (ltb→lt _ _ h.0, ltb→lt _ _ h.1)

-- a scan that question 18 accepts has samples of b bits, mended
pub has_bits : (b l : ℕ) (xs : List ℕ) → T (all (length xs) (sample_good (2 ^ b - 1) xs)) → HasBits b (sample_at l xs)
unfolding sample_at
has_bits b l xs h (pos i) (pos j) = within (ltb j l)
  where
    at : (k : ℕ) (c : Bool) → (T c → k < length xs) → (T (not c) → length xs ≤ k) → T (sample_good (2 ^ b - 1) xs k)
    at k true f g = all_at (length xs) (sample_good (2 ^ b - 1) xs) h k (f tt)
    at k false f g = rw (get_or-eq_default xs 0 {n = k} (g tt)) (small_good {x = 0} {m = 2 ^ b - 1} zero-le)

    within : (c : Bool) → cond c (mended_at (λ k. get_or xs (i * l + k) 0) j) 0 ≤ 2 ^ b - 1
    within true =
        mended_most (λ k. get_or xs (i * l + k) 0) (2 ^ b - 1) j
        (λ k p. at (i * l + k) (ltb (i * l + k) (length xs)) (ltb→lt (i * l + k) (length xs)) (nltb→le (i * l + k) (length xs)))
    within false = zero-le
has_bits b l xs h (pos i) (negsuc j) = zero-le
has_bits b l xs h (negsuc i) j = zero-le
