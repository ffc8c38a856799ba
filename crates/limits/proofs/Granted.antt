-- What a table that question 11 accepts is: the bounds on each of its numbers, for which question 10 is not needed.
-- Assumes nothing.
use Rattle.std.proofs.Common.{ℕ, ◌≤◌, ◌<◌, ◌≡◌, refl, sym, subst, true, ◌&&◌, T, leb, ltb, leb→le, ltb→lt, le-leb}
use Rattle.std.proofs.Math.Facts.{and_yes}
use Rattle.arith.specs.All.{all}
use Rattle.arith.specs.Twos.{fits_signed}
use Rattle.arith.proofs.Alls.{all_at}
use Rattle.layout.specs.declared.Table.{Table}
use Rattle.layout.specs.Contents.{contents, rect}
use Rattle.limits.specs.Limits.{bits_good, drops_good, word_good, rect_good, value_good, shaped, within, acceptable}
use Rattle.limits.specs.Slots.{slot_good}
use Rattle.limits.proofs.Values.{shaped_slots}
use Rattle.limits.proofs.Bounds.{RectBounds, rect_bounds}

pub record Granted (t : Table) : Type 0 where
  pub bits_most : t.b ≤ 12
  pub q1_less : t.q1 < t.b
  pub q2_most : t.q2 ≤ 8
  pub q3_most : t.q3 ≤ 8
  pub shift_most : t.t ≤ 31
  pub word_least : 8 ≤ t.w
  pub word_most : t.w ≤ 32
  pub some : 1 ≤ t.count
  pub few : t.count ≤ 16
  pub edges : (k : ℕ) → k < t.count → T (rect_good (rect t k))
  pub bounds : (k : ℕ) → k < t.count → RectBounds (rect t k)
  pub weight : (k : ℕ) → k < t.count → T (fits_signed 16 (rect t k).weight)

pub shaped_granted : (t : Table) → T (shaped (contents t)) → Granted t
unfolding bits_good drops_good word_good
shaped_granted t e =
    let h = subst T (shaped_slots t) e in
    let a = and_yes (leb 1 t.b && leb t.b 12) _ h in
    let a1 = and_yes (leb 1 t.b) (leb t.b 12) a.0 in
    let b = and_yes (ltb t.q1 t.b && (leb t.q2 8 && leb t.q3 8)) _ a.1 in
    let b1 = and_yes (ltb t.q1 t.b) (leb t.q2 8 && leb t.q3 8) b.0 in
    let b2 = and_yes (leb t.q2 8) (leb t.q3 8) b1.1 in
    let c = and_yes (leb t.t 31 && (leb 8 t.w && leb t.w 32)) _ b.1 in
    let c1 = and_yes (leb t.t 31) (leb 8 t.w && leb t.w 32) c.0 in
    let c2 = and_yes (leb 8 t.w) (leb t.w 32) c1.1 in
    let d = and_yes (leb 1 t.count) _ c.1 in
    let f = and_yes (leb t.count 16) (all t.count (slot_good t)) d.1 in
    let slot : (k : ℕ) → k < t.count → T (rect_good (rect t k)) × T (fits_signed 16 (rect t k).weight) =
    λ k l. and_yes (rect_good (rect t k)) (fits_signed 16 (rect t k).weight) (all_at t.count (slot_good t) f.1 k l) in
    record {
      bits_most = leb→le _ _ a1.1;
      q1_less = ltb→lt _ _ b1.0;
      q2_most = leb→le _ _ b2.0;
      q3_most = leb→le _ _ b2.1;
      shift_most = leb→le _ _ c1.0;
      word_least = leb→le _ _ c2.0;
      word_most = leb→le _ _ c2.1;
      some = leb→le _ _ d.0;
      few = leb→le _ _ f.0;
      edges = λ k l. (slot k l).0;
      bounds = λ k l. rect_bounds (rect t k) (slot k l).0;
      weight = λ k l. (slot k l).1;
    }

both : (t : Table) → acceptable t ≡ true → T (shaped (contents t)) × T (value_good (contents t))
unfolding acceptable within
both t e = and_yes (shaped (contents t)) (value_good (contents t)) (subst T (sym e) tt)

pub granted : (t : Table) → acceptable t ≡ true → Granted t
granted t e = shaped_granted t (both t e).0

-- and question 10
pub granted_value : (t : Table) → acceptable t ≡ true → T (value_good (contents t))
granted_value t e = (both t e).1

pub granted_word : {t : Table} → Granted t → word_good t.t t.w ≡ true
unfolding word_good
granted_word {t} g = rw (le-leb t.t 31 g.shift_most, le-leb 8 t.w g.word_least, le-leb t.w 32 g.word_most) refl
