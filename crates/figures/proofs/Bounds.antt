-- How large a loss figure, and its product with a weight, can be.
-- Assumes nothing.
use Rattle.std.proofs.Common.{ℕ, ◌+◌, ◌-◌, ◌*◌, ◌≤◌, ◌<◌, mul-le-mul, arith, ◌≡◌, sym, ◌∙◌, subst, true, T, leb, pow_mono}
use Rattle.std.proofs.Math.Facts.{and_yes}
use Rattle.arith.proofs.Bools.{true_of}
use Rattle.layout.specs.declared.Table.{Table}
use Rattle.layout.specs.Contents.{rect}
use Rattle.layout.specs.Measure.{loss_figure}
use Rattle.limits.specs.Limits.{bits_good, drops_good, fitting, acceptable}
use Rattle.limits.proofs.Granted.{Granted}
use Rattle.limits.proofs.Values.{acceptable_asked}
use Rattle.figures.specs.Sizes.{loss_most, share_most}

tests : (t : Table) → T (fitting t) → (bits_good t.b ≡ true) × (drops_good t.b t.q1 t.q2 t.q3 ≡ true)
unfolding fitting
tests t y =
    let a = and_yes (bits_good t.b) _ y in
    let b = and_yes (drops_good t.b t.q1 t.q2 t.q3) _ a.1 in
    (true_of _ a.0, true_of _ b.0)

-- questions 3 and 4 of an accepted table
pub head_tests : (t : Table) → acceptable t ≡ true → (bits_good t.b ≡ true) × (drops_good t.b t.q1 t.q2 t.q3 ≡ true)
head_tests t e =
    let a = subst T (sym e ∙ acceptable_asked t) tt in
    let b = (and_yes (fitting t) _ (and_yes (leb 1 t.count) _ a).1).0 in
    tests t b

pub loss_most_lem : {t : Table} (g : Granted t) (k : ℕ) → k < t.count → loss_figure t (rect t k) ≤ loss_most
unfolding loss_figure
loss_most_lem {t} g k h =
    let q = g.q1_less in
    let b = g.bits_most in
    let p1 = pow_mono {i = t.q1} {j = 11} (omega arith) in
    let p2 = pow_mono {i = t.q2} {j = 8} g.q2_most in
    let p12 = pow_mono {i = t.q1 + t.q2} {j = 19} (let l = g.q2_most in omega arith) in
    let p3 = pow_mono {i = t.q3} {j = 8} g.q3_most in
    let r = g.bounds k h in
    let x = mul-le-mul (mul-le-mul r.rows_most r.cols_most) (ones p1) in
    let y = mul-le-mul (mul-le-mul p1 r.cols_most) (ones p2) in
    let z = mul-le-mul p12 (ones p3) in
    omega arith
  where
    ones : {a b : ℕ} → a ≤ b → a - 1 ≤ b - 1
    ones h = omega arith

-- a weight has at most 2^15
pub share_most_lem : {w n : ℕ} → w ≤ 32768 → n ≤ loss_most → w * n ≤ share_most
share_most_lem h l = mul-le-mul h l
