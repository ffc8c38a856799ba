-- A rectangle's numbers held: question 8 is answered alike, and a rectangle that passes it and has a weight of 16 bits is not held.
-- Assumes nothing.
use Rattle.std.proofs.Common.{ℕ, zero, suc, ◌≤◌, min, arith, ◌≡◌, sym, ap, ap₂, ◌∙◌, subst, Bool, true, false, cond, ◌&&◌, List, [], T, leb, ltb, get_or, leb-true, ltb-true}
use Rattle.std.proofs.Math.Facts.{and_yes}
use Rattle.arith.specs.Diff.{Diff}
use Rattle.arith.specs.Twos.{fits_signed}
use Rattle.arith.proofs.Bools.{bool_eq}
use Rattle.limits.specs.Limits.{edges_good, rect_good}
use Rattle.limits.proofs.Bounds.{edges}
use Rattle.words.specs.Words.{minus, size, with_sign, integer}
use Rattle.forms.specs.Forms.{integer_at, rect_in, held_edge, held_weight, held_rect}
use Rattle.forms.proofs.Signs.{fits_word}

edge_size : (m : Bool) (n p : ℕ) → Diff (with_sign m n) p 16 → p ≤ 31 → n ≤ 16
unfolding with_sign
edge_size false n p d h = let e = d.is in omega arith
edge_size true zero p d h = omega arith
edge_size true (suc n) p d h = let e = d.is in omega arith

small : (m k : Bool) (n o : ℕ) → T (edges_good (with_sign m n) (with_sign k o)) → (n ≤ 16) × (o ≤ 16)
small m k n o t =
    let e = edges (with_sign m n) (with_sign k o) t in
    let a = e.above in
    let b = e.most in
    (edge_size m n e.lead e.lead_is e.most, edge_size k o e.trail e.trail_is (omega arith))

edges_held : (m k : Bool) (n o : ℕ) → edges_good (with_sign m (min 127 n)) (with_sign k (min 127 o)) ≡ edges_good (with_sign m n) (with_sign k o)
edges_held m k n o =
    bool_eq _ _
    (λ t. let s = small m k (min 127 n) (min 127 o) t in
    let x = s.0 in
    let y = s.1 in
    subst T (same (omega arith) (omega arith)) t)
    (λ t. let s = small m k n o t in
    let x = s.0 in
    let y = s.1 in
    subst T (sym (same (omega arith) (omega arith))) t)
  where
    same : n ≤ 127 → o ≤ 127 → edges_good (with_sign m (min 127 n)) (with_sign k (min 127 o)) ≡ edges_good (with_sign m n) (with_sign k o)
    same h l =
        let e : min 127 n ≡ n = omega arith in
        let f : min 127 o ≡ o = omega arith in
        ap₂ (λ x y. edges_good (with_sign m x) (with_sign k y)) e f

module _ (words : List (List ℕ)) where
  abbrev w : ℕ → List ℕ
  w k = get_or words k []

  pub rect_held : rect_good (held_rect words) ≡ rect_good (rect_in words)
  unfolding rect_good integer_at integer
  rect_held =
      ap₂ ◌&&◌ (edges_held (minus (w 2)) (minus (w 5)) (size (w 2)) (size (w 5))) (edges_held (minus (w 3)) (minus (w 6)) (size (w 3)) (size (w 6)))

  edge_exact : (k : ℕ) → size (w k) ≤ 16 → held_edge (w k) ≡ integer_at words k
  unfolding integer_at integer
  edge_exact k h = let e : min 127 (size (w k)) ≡ size (w k) = omega arith in ap (with_sign (minus (w k))) e

  weight_exact : fits_signed 16 (integer_at words 8) ≡ true → held_weight (w 8) ≡ integer_at words 8
  unfolding integer_at integer
  weight_exact e = go (minus (w 8)) (sym (fits_word (minus (w 8)) (size (w 8))) ∙ e)
    where
      go : (m : Bool) → cond m (leb (size (w 8)) 32768) (ltb (size (w 8)) 32768) ≡ true
          → with_sign m (min (cond m 32768 32767) (size (w 8))) ≡ with_sign m (size (w 8))
      go true h = let l = leb-true (size (w 8)) 32768 h in let e : min 32768 (size (w 8)) ≡ size (w 8) = omega arith in ap (with_sign true) e
      go false h = let l = ltb-true (size (w 8)) 32768 h in let e : min 32767 (size (w 8)) ≡ size (w 8) = omega arith in ap (with_sign false) e

  pub rect_exact : rect_good (rect_in words) ≡ true → fits_signed 16 (integer_at words 8) ≡ true → held_rect words ≡ rect_in words
  unfolding rect_good integer_at integer
  rect_exact g h =
      let a = and_yes (edges_good (integer_at words 2) (integer_at words 5)) (edges_good (integer_at words 3) (integer_at words 6)) (subst T (sym g) tt) in
      let x = small (minus (w 2)) (minus (w 5)) (size (w 2)) (size (w 5)) a.0 in
      let y = small (minus (w 3)) (minus (w 6)) (size (w 3)) (size (w 6)) a.1 in
      let e2 = edge_exact 2 x.0 in
      let e3 = edge_exact 3 y.0 in
      let e5 = edge_exact 5 x.1 in
      let e6 = edge_exact 6 y.1 in
      let e8 = weight_exact h in
      λ i. record { leadrow = e2 i; leadcol = e3 i; trailrow = e5 i; trailcol = e6 i; weight = e8 i }
