-- Integers as differences of naturals. `Diff z p n` says that z is p - n; by its laws a fact on ℤ is one on ℕ.
-- Assumes nothing.
use Rattle.std.proofs.Common.{ℕ, zero, suc, ◌+◌, ◌-◌, ◌*◌, ◌≤◌, ◌<◌, arith, lt-suc_self, ◌≡◌, refl, sym, ap, ◌∙◌, subst, Bool, true, false, not, cond, T, ltb, leb, eqb, ltb→lt, nltb→le, leb→le, le→leb, lt→ltb, eqb→eq, ℤ, pos, negsuc, neg_ℤ, ◌+ℤ◌, ◌-ℤ◌, ◌*ℤ◌, ◌≤ℤ◌, ◌<ℤ◌, lt-ltb, le-ltb, eq-eqb}
use Rattle.std.proofs.Math.Nat.{le_step}
use Rattle.std.proofs.Math.Dec.{eqb_refl}
use Rattle.std.proofs.Math.IntN.{sub_ℕ}
use Rattle.std.specs.Int.Signed.{le_z, lt_z, mag}
use Rattle.std.proofs.Math.Facts.{and_yes, yes_and}
use Rattle.arith.proofs.Bools.{bool_eq}
use Rattle.arith.specs.Sum.{sum, sum_ℤ}
use Rattle.arith.specs.Diff.{Diff}
use Rattle.arith.specs.Equal.{eq_z}
use Rattle.arith.specs.Part.{pos_part, neg_part}

-- ---- making one

pub diff_pos : (a : ℕ) → Diff (pos a) a 0
diff_pos a = record { is = omega arith }

pub diff_neg : (a : ℕ) → Diff (neg_ℤ (pos a)) 0 a
diff_neg zero = record { is = refl }
diff_neg (suc a) = record { is = omega arith }

pub diff_parts : (z : ℤ) → Diff z (pos_part z) (neg_part z)
diff_parts (pos a) = record { is = omega arith }
diff_parts (negsuc a) = record { is = omega arith }

pub diff_sub : (a b : ℕ) → Diff (sub_ℕ a b) a b
diff_sub a b = go (ltb a b) (ltb→lt a b) (nltb→le a b)
  where
    go : (c : Bool) → (T c → a < b) → (T (not c) → b ≤ a) → Diff (cond c (negsuc (b - suc a)) (pos (a - b))) a b
    go true f g = let h = f tt in record { is = omega arith }
    go false f g = let h = g tt in record { is = omega arith }

pub sub_high : (a b : ℕ) → b ≤ a → sub_ℕ a b ≡ pos (a - b)
sub_high a b h = rw (le-ltb a b h)

pub sub_low : (a b : ℕ) → a < b → sub_ℕ a b ≡ negsuc (b - suc a)
sub_low a b h = rw (lt-ltb a b h)

-- the same integer, both numbers raised alike
pub diff_shift : {z : ℤ} {p n q m : ℕ} → Diff z p n → p + m ≡ q + n → Diff z q m
diff_shift {z = pos a} d e = let h = d.is in record { is = omega arith }
diff_shift {z = negsuc a} d e = let h = d.is in record { is = omega arith }

pub diff_add : {y z : ℤ} {p n q m : ℕ} → Diff y p n → Diff z q m → Diff (y +ℤ z) (p + q) (n + m)
diff_add {y = pos a} {z = pos b} d e = let h = d.is in let k = e.is in record { is = omega arith }
diff_add {y = pos a} {z = negsuc b} d e = let h = d.is in let k = e.is in diff_shift (diff_sub a (suc b)) (omega arith)
diff_add {y = negsuc a} {z = pos b} d e = let h = d.is in let k = e.is in diff_shift (diff_sub b (suc a)) (omega arith)
diff_add {y = negsuc a} {z = negsuc b} d e = let h = d.is in let k = e.is in record { is = omega arith }

pub diff_negate : {z : ℤ} {p n : ℕ} → Diff z p n → Diff (neg_ℤ z) n p
diff_negate {z = pos zero} d = let h = d.is in record { is = omega arith }
diff_negate {z = pos (suc a)} d = let h = d.is in record { is = omega arith }
diff_negate {z = negsuc a} d = let h = d.is in record { is = omega arith }

pub diff_minus : {y z : ℤ} {p n q m : ℕ} → Diff y p n → Diff z q m → Diff (y -ℤ z) (p + m) (n + q)
diff_minus d e = diff_add d (diff_negate e)

-- times a natural
pub diff_scale : {z : ℤ} {p n : ℕ} (c : ℕ) → Diff z p n → Diff (z *ℤ pos c) (p * c) (n * c)
diff_scale {z = pos a} c d = let h = ap (λ x. x * c) d.is in record { is = omega arith }
diff_scale {z = negsuc a} c d = let h = ap (λ x. x * c) d.is in diff_shift (diff_neg (suc a * c)) (omega arith)

-- ---- reading one

pub diff_le : {y z : ℤ} {p n q m : ℕ} → Diff y p n → Diff z q m → p + m ≤ q + n → y ≤ℤ z
diff_le {y = pos a} {z = pos b} d e l = let h = d.is in let k = e.is in record { le = omega (arith, le→leb) }
diff_le {y = pos a} {z = negsuc b} d e l = let h = d.is in let k = e.is in record { le = omega arith }
diff_le {y = negsuc a} {z = pos b} d e l = record { le = tt }
diff_le {y = negsuc a} {z = negsuc b} d e l = let h = d.is in let k = e.is in record { le = omega (arith, le→leb) }

pub diff_lt : {y z : ℤ} {p n q m : ℕ} → Diff y p n → Diff z q m → p + m < q + n → y <ℤ z
diff_lt {y = pos a} {z = pos b} d e l = let h = d.is in let k = e.is in record { lt = omega (arith, lt→ltb) }
diff_lt {y = pos a} {z = negsuc b} d e l = let h = d.is in let k = e.is in record { lt = omega arith }
diff_lt {y = negsuc a} {z = pos b} d e l = record { lt = tt }
diff_lt {y = negsuc a} {z = negsuc b} d e l = let h = d.is in let k = e.is in record { lt = omega (arith, lt→ltb) }

pub le_diff : {y z : ℤ} {p n q m : ℕ} → Diff y p n → Diff z q m → y ≤ℤ z → p + m ≤ q + n
le_diff {y = pos a} {z = pos b} d e l = let h = d.is in let k = e.is in let i = l.le in omega (arith, leb→le)
le_diff {y = pos a} {z = negsuc b} d e l = absurd l.le
le_diff {y = negsuc a} {z = pos b} d e l = let h = d.is in let k = e.is in omega arith
le_diff {y = negsuc a} {z = negsuc b} d e l = let h = d.is in let k = e.is in let i = l.le in omega (arith, leb→le)

pub lt_diff : {y z : ℤ} {p n q m : ℕ} → Diff y p n → Diff z q m → y <ℤ z → p + m < q + n
lt_diff {y = pos a} {z = pos b} d e l = let h = d.is in let k = e.is in let i = l.lt in omega (arith, ltb→lt)
lt_diff {y = pos a} {z = negsuc b} d e l = absurd l.lt
lt_diff {y = negsuc a} {z = pos b} d e l = let h = d.is in let k = e.is in omega arith
lt_diff {y = negsuc a} {z = negsuc b} d e l = let h = d.is in let k = e.is in let i = l.lt in omega (arith, ltb→lt)

pub diff_eq : {y z : ℤ} {p n q m : ℕ} → Diff y p n → Diff z q m → p + m ≡ q + n → y ≡ z
diff_eq {y = pos a} {z = pos b} d e l = let h = d.is in let k = e.is in ap pos (omega arith)
diff_eq {y = pos a} {z = negsuc b} d e l = let h = d.is in let k = e.is in absurd (omega arith)
diff_eq {y = negsuc a} {z = pos b} d e l = let h = d.is in let k = e.is in absurd (omega arith)
diff_eq {y = negsuc a} {z = negsuc b} d e l = let h = d.is in let k = e.is in ap negsuc (omega arith)

-- the tests of order, as tests on ℕ
pub diff_le_z : {y z : ℤ} {p n q m : ℕ} → Diff y p n → Diff z q m → le_z y z ≡ leb (p + m) (q + n)
diff_le_z {y} {z} d e =
    bool_eq _ _ (λ t. le→leb _ _ (le_diff d e (record { le = t }))) (λ t. (diff_le d e (leb→le _ _ t)).le)

pub diff_lt_z : {y z : ℤ} {p n q m : ℕ} → Diff y p n → Diff z q m → lt_z y z ≡ ltb (p + m) (q + n)
diff_lt_z {y} {z} d e =
    bool_eq _ _ (λ t. lt→ltb _ _ (lt_diff d e (record { lt = t }))) (λ t. (diff_lt d e (ltb→lt _ _ t)).lt)

pub diff_eq_z : {y z : ℤ} {p n q m : ℕ} → Diff y p n → Diff z q m → eq_z y z ≡ eqb (p + m) (q + n)
unfolding eq_z
diff_eq_z {y} {z} {p} {n} {q} {m} d e =
    rw (diff_le_z d e, diff_le_z e d)
    (bool_eq _ _
    (λ t.
    let h = and_yes (leb (p + m) (q + n)) (leb (q + n) (p + m)) t in
    let i = leb→le (p + m) (q + n) h.0 in
    let j = leb→le (q + n) (p + m) h.1 in
    rw (eq-eqb (p + m) (q + n) (omega arith)) tt)
    (λ t.
    let i = eqb→eq (p + m) (q + n) t in
    yes_and (leb (p + m) (q + n)) (leb (q + n) (p + m)) (le→leb (p + m) (q + n) (omega arith)) (le→leb (q + n) (p + m) (omega arith))))

pub eq_z→eq : (y z : ℤ) → T (eq_z y z) → y ≡ z
eq_z→eq y z t = diff_eq (diff_parts y) (diff_parts z) (eqb→eq _ _ (subst T (diff_eq_z (diff_parts y) (diff_parts z)) t))

pub eq→eq_z : {y z : ℤ} → y ≡ z → T (eq_z y z)
eq→eq_z {y} {z} e = subst (λ x. T (eq_z y x)) e (subst T (sym (diff_eq_z (diff_parts y) (diff_parts y))) (eqb_refl (pos_part y + neg_part y)))

-- the size is within what bounds both numbers
pub diff_size : {z : ℤ} {p n : ℕ} (b : ℕ) → Diff z p n → p < b → n ≤ b → mag z < b
diff_size {z = pos a} b d h k = let e = d.is in omega arith
diff_size {z = negsuc a} b d h k = let e = d.is in omega arith

-- the parts of a difference
pub diff_pos_part : {z : ℤ} {p n : ℕ} → Diff z p n → pos_part z ≡ p - n
diff_pos_part {z = pos a} d = let e = d.is in omega arith
diff_pos_part {z = negsuc a} d = let e = d.is in omega arith

pub diff_neg_part : {z : ℤ} {p n : ℕ} → Diff z p n → neg_part z ≡ n - p
diff_neg_part {z = pos a} d = let e = d.is in omega arith
diff_neg_part {z = negsuc a} d = let e = d.is in omega arith

-- ---- sums

pub sum_ℤ-suc : (n : ℕ) (f : ℕ → ℤ) → sum_ℤ (suc n) f ≡ sum_ℤ n f +ℤ f n
unfolding sum_ℤ
sum_ℤ-suc n f = refl

pub sum_ℤ_cong : (n : ℕ) {f g : ℕ → ℤ} → ((k : ℕ) → k < n → f k ≡ g k) → sum_ℤ n f ≡ sum_ℤ n g
unfolding sum_ℤ
sum_ℤ_cong zero h = refl
sum_ℤ_cong (suc n) {f} {g} h =
    ap (λ x. x +ℤ f n) (sum_ℤ_cong n (λ k l. h k (le_step l))) ∙ ap (λ x. sum_ℤ n g +ℤ x) (h n (lt-suc_self n))

pub diff_sum : (n : ℕ) {f : ℕ → ℤ} {p m : ℕ → ℕ} → ((k : ℕ) → k < n → Diff (f k) (p k) (m k)) → Diff (sum_ℤ n f) (sum n p) (sum n m)
unfolding sum sum_ℤ
diff_sum zero h = record { is = refl }
diff_sum (suc n) h = diff_add (diff_sum n (λ k l. h k (le_step l))) (h n (lt-suc_self n))
