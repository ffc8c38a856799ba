-- Rows given one by one to two things that take each row alike.
-- Assumes nothing.
use Prim.Native.Nat.{ℕ, zero, suc, ◌*◌}
use mathlib.Core.Path.{◌≡◌, refl, ap}
use mathlib.Core.Bool.{Bool, true, false, cond}
use mathlib.Core.List.{List}
use lib.IntN.{ℤ}
use lib.ListN.{take, drop}
use Rattle.layout.specs.Answers.{Left}
use Rattle.model.proofs.Agrees.{Agree}
use Rattle.burst.specs.Bursts.{Progress, is_refused, row_said, next_left, counted, feed, burst_left}

module _ {S M : Type 0} (Follows : S → M → Type 0) (row : S → List ℕ → List ℤ → Left S) (row' : M → List ℕ → List ℤ → Left M) where
  -- two bursts part way, alike
  pub record Alike (p : Progress S) (q : Progress M) : Type 0 where
    pub said : p.said ≡ q.said
    pub out : p.out ≡ q.out
    pub taken : p.taken ≡ q.taken
    pub filtered : p.filtered ≡ q.filtered
    pub follows : Follows p.state q.state

  module _ (kept : (s : S) (m : M) (r : List ℕ) (out : List ℤ) → Follows s m → Agree Follows (row s r out) (row' m r out)) where
    next_alike : (l : ℕ) (rows : List ℕ) (p : Progress S) (q : Progress M) → Alike p q
        → Agree Follows (next_left row l p rows) (next_left row' l q rows)
    next_alike l rows p q a =
        rw (a.out, a.taken, a.filtered)
        (kept p.state q.state (take l (drop (q.taken * l) rows)) (take l (drop (q.filtered * l) q.out)) a.follows)

    counted_alike : (l : ℕ) (p : Progress S) (q : Progress M) (x : Left S) (y : Left M) → Alike p q
        → Agree Follows x y → Alike (counted l p x) (counted l q y)
    counted_alike l p q x y a m =
        let e : x.said ≡ y.said = ap (λ r. r.said) m.0 in
        let f : x.out ≡ y.out = ap (λ r. r.out) m.0 in
        record {
          said = ap row_said e;
          out = rw (f, a.filtered, a.out) refl;
          taken = rw (e, a.taken) refl;
          filtered = rw (e, a.filtered) refl;
          follows = m.1;
        }

    go_on : (y z : Bool) → y ≡ z → {p p' : Progress S} {q q' : Progress M} → Alike p q → Alike p' q' → Alike (cond y p p') (cond z q q')
    go_on true z e b later = rw (← e) b
    go_on false z e b later = rw (← e) later

    pub feed_alike : (l n : ℕ) (rows : List ℕ) (p : Progress S) (q : Progress M) → Alike p q → Alike (feed row l n p rows) (feed row' l n q rows)
    unfolding feed
    feed_alike l zero rows p q a = a
    feed_alike l (suc n) rows p q a =
        let m = next_alike l rows p q a in
        let b = counted_alike l p q (next_left row l p rows) (next_left row' l q rows) a m in
        go_on (is_refused (next_left row l p rows).said) (is_refused (next_left row' l q rows).said) (ap (λ r. is_refused r.said) m.0) b
        (feed_alike l n rows (counted l p (next_left row l p rows)) (counted l q (next_left row' l q rows)) b)

    -- what they leave
    pub left_alike : (p : Progress S) (q : Progress M) → Alike p q → Agree Follows (burst_left p) (burst_left q)
    left_alike p q a = (rw (a.said, a.out, a.taken, a.filtered) refl, a.follows)
