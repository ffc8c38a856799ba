-- Laws of a line's differences: one place set, a weight added between two places, a rectangle added, all rectangles added.
-- Assumes nothing.
use Rattle.std.proofs.Common.{ℕ, zero, suc, ◌+◌, ◌-◌, ◌*◌, ◌≤◌, ◌<◌, not-suc-le-zero, arith, ◌≡◌, refl, sym, ap, ◌∙◌, ⊎_elim, Bool, true, false, not, cond, ◌&&◌, List, T, ltb, leb, eqb, ltb→lt, nltb→le, ℤ, pos, ◌*ℤ◌, length, get_or, set, replicate, length-set, get_or-set_same, get_or-set_other, lt-ltb, le-ltb, le-leb, eqb-true}
use Rattle.std.proofs.Math.Nat.{le-suc_iff, suc_inj}
use Rattle.std.proofs.Math.ListN.{length-replicate, get_or-replicate}
use Rattle.std.proofs.lemmas.Bool.{lt-leb, eqb-false}
use Rattle.arith.specs.Sum.{sum, sum_ℤ}
use Rattle.arith.specs.Diff.{Diff}
use Rattle.arith.specs.Part.{pos_part, neg_part}
use Rattle.arith.proofs.Sums.{sum-suc, sum_cong, sum_const}
use Rattle.arith.proofs.Ints.{diff_parts, diff_pos, diff_add, diff_scale, diff_shift, diff_pos_part, diff_neg_part, sum_ℤ-suc}
use Rattle.layout.specs.declared.Rect.{Rect}
use Rattle.grid.specs.Grid.{offset, covers, factor, grid_at}
use Rattle.grid.specs.Lines.{delta_bias, weight_most, entry_most, place_above, up_to, line_sum, Near, DeltasFit, Raised, Added, LineDeltas, EntriesFit}
use Rattle.grid.proofs.Offsets.{covers_placed}

-- ---- one place set

-- the sum of the first n places
abbrev first : (xs : List ℕ) → (n : ℕ) → ℕ
first xs n = sum n (λ j. get_or xs j 0)

-- sums that do not reach the place stay
set_before : (xs : List ℕ) (s y n : ℕ) → n ≤ s → first (set xs s y) n ≡ first xs n
set_before xs s y n h = sum_cong n (λ j i. get_or-set_other xs s j y 0 (λ e. omega arith))

-- the others change as it does
set_after : (xs : List ℕ) (s y : ℕ) → s < length xs → (n : ℕ) → s < n → first (set xs s y) n + get_or xs s 0 ≡ first xs n + y
set_after xs s y h zero i = absurd (not-suc-le-zero i)
set_after xs s y h (suc n) i =
    rw (sum-suc, sum-suc)
    (⊎_elim (λ (p : s < n). later p (set_after xs s y h n p)) (λ (e : suc s ≡ suc n). here (suc_inj e)) (le-suc_iff.0 i))
  where
    later : s < n → first (set xs s y) n + get_or xs s 0 ≡ first xs n + y
        → first (set xs s y) n + get_or (set xs s y) n 0 + get_or xs s 0 ≡ first xs n + get_or xs n 0 + y
    later p e = let q = get_or-set_other xs s n y 0 (λ k. omega arith) in omega arith

    here : s ≡ n → first (set xs s y) n + get_or (set xs s y) n 0 + get_or xs s 0 ≡ first xs n + get_or xs n 0 + y
    here e =
        let b = set_before xs s y n (omega arith) in
        let p = ap (λ k. get_or (set xs s y) k 0) e in
        let q = ap (λ k. get_or xs k 0) e in
        let r = get_or-set_same xs s y 0 h in
        omega arith

set_near : (xs : List ℕ) (s y : ℕ) {m : ℕ} → s < length xs → Near m y (get_or xs s 0) → (b : ℕ) → Near m (get_or (set xs s y) b 0) (get_or xs b 0)
set_near xs s y {m} h n b = go (eqb b s) (eqb-true b s) (eqb-false b s)
  where
    go : (c : Bool) → (c ≡ true → b ≡ s) → (c ≡ false → b ≡ s → ⊥) → Near m (get_or (set xs s y) b 0) (get_or xs b 0)
    go true f g = rw (f refl, get_or-set_same xs s y 0 h) n
    go false f g = rw (get_or-set_other xs s b y 0 (g refl)) (record { least = omega arith; most = omega arith })

-- ---- a weight added to the entries between two places

pub end_kept : (xs : List ℕ) (s e y : ℕ) → s < e → get_or (set xs s y) e 0 ≡ get_or xs e 0
end_kept xs s e y h = get_or-set_other xs s e y 0 (λ k. omega arith)

module _ (xs : List ℕ) (s e w y z : ℕ) (l : length xs ≡ 32) (h : s < e) (i : e < 32) (j : w < 65536) (p : y + 32768 ≡ get_or xs s 0 + w)
    (q : z + w ≡ get_or xs e 0 + 32768) where
  abbrev once : List ℕ
  once = set xs s y

  abbrev twice : List ℕ
  twice = set once e z

  raised_long : length once ≡ 32
  raised_long = length-set xs s y ∙ l

  raised_is : (b : ℕ) → up_to twice b + weight_most ≡ up_to xs b + cond (leb s b && ltb b e) w weight_most
  raised_is b = go (ltb b s) (ltb→lt b s) (nltb→le b s) (ltb b e) (ltb→lt b e) (nltb→le b e)
    where
      go : (c : Bool) → (T c → b < s) → (T (not c) → s ≤ b) → (d : Bool) → (T d → b < e) → (T (not d) → e ≤ b)
          → up_to twice b + weight_most ≡ up_to xs b + cond (leb s b && ltb b e) w weight_most
      go true f g d m n =
          let k = f tt in
          let u = set_before once e z (suc b) (omega arith) in
          let v = set_before xs s y (suc b) (omega arith) in
          rw (lt-leb s b k) (omega arith)
      go false f g true m n =
          let k = g tt in
          let r = m tt in
          let u = set_before once e z (suc b) (omega arith) in
          let v = set_after xs s y (omega arith) (suc b) (omega arith) in
          rw (le-leb s b k, lt-ltb b e r) (omega arith)
      go false f g false m n =
          let k = g tt in
          let r = n tt in
          let t = end_kept xs s e y h in
          let u = set_after once e z (let o = raised_long in omega arith) (suc b) (omega arith) in
          let v = set_after xs s y (omega arith) (suc b) (omega arith) in
          rw (le-leb s b k, le-ltb b e r) (omega arith)

  raised_near : (b : ℕ) → b < 32 → Near weight_most (get_or twice b 0) (get_or xs b 0)
  raised_near b u = go (eqb b e) (eqb-true b e) (eqb-false b e)
    where
      go : (c : Bool) → (c ≡ true → b ≡ e) → (c ≡ false → b ≡ e → ⊥) → Near weight_most (get_or twice b 0) (get_or xs b 0)
      go true f g =
          let o = raised_long in
          rw (f refl, get_or-set_same once e z 0 (omega arith)) (record { least = omega arith; most = omega arith })
      go false f g =
          rw (get_or-set_other once e b z 0 (g refl)) (set_near xs s y (omega arith) (record { least = omega arith; most = omega arith }) b)

  pub raised : Raised s e w xs twice
  raised = record { long = length-set once e z ∙ raised_long; near = raised_near; is = raised_is }

-- ---- a rectangle added

-- a weight taken once or not at all
weight_part : {z : ℤ} {w : ℕ} (c : Bool) (p n : ℕ) → Diff z w 32768 → p + 32768 ≡ n + cond c w 32768 → Diff (z *ℤ pos (cond c 1 0)) p n
weight_part true p n d e = diff_shift (diff_scale 1 d) (omega arith)
weight_part false p n d e = diff_shift (diff_scale 0 d) (omega arith)

weight_near : {w : ℕ} (c : Bool) (p n : ℕ) → w < 65536 → p + 32768 ≡ n + cond c w 32768 → Near weight_most p n
weight_near true p n h e = record { least = omega arith; most = omega arith }
weight_near false p n h e = record { least = omega arith; most = omega arith }

and_no : (c : Bool) → (c && false) ≡ false
and_no true = refl
and_no false = refl

-- no place lies from s on and before e where e is not above s
apart : (s e b : ℕ) → e ≤ s → (leb s b && ltb b e) ≡ false
apart s e b h = go (ltb b e) (ltb→lt b e) (nltb→le b e)
  where
    go : (c : Bool) → (T c → b < e) → (T (not c) → e ≤ b) → (leb s b && ltb b e) ≡ false
    go true f g = let k = f tt in rw (lt-leb s b (omega arith)) refl
    go false f g = rw (le-ltb b e (g tt)) (and_no (leb s b))

module _ (d : Rect) (a : ℕ) where
  -- the rectangle covers the line
  pub added : {w : ℕ} {xs ys : List ℕ} → covers d.leadrow d.trailrow (offset a) ≡ true → Diff d.weight w 32768 → w < 65536
      → Raised (place_above d.trailcol) (place_above d.leadcol) w xs ys → Added d a xs ys
  unfolding factor
  added {w} {xs} {ys} c e h r =
      record {
        long = r.long;
        near = r.near;
        is = λ b i. rw (c, covers_placed d.leadcol d.trailcol b i) (weight_part (between b) (up_to ys b) (up_to xs b) e (r.is b));
        close = λ b i. weight_near (between b) (up_to ys b) (up_to xs b) h (r.is b);
      }
    where
      between : ℕ → Bool
      between b = leb (place_above d.trailcol) b && ltb b (place_above d.leadcol)

  -- or it covers no place of it
  unchanged : {xs : List ℕ} → length xs ≡ 32 → ((b : ℕ) → b < 31 → factor d a b ≡ 0) → Added d a xs xs
  unchanged {xs} l z =
      record {
        long = l;
        near = λ b i. record { least = omega arith; most = omega arith };
        is = λ b i. rw (z b i) (diff_shift (diff_scale 0 (diff_parts d.weight)) (omega arith));
        close = λ b i. record { least = omega arith; most = omega arith };
      }

  pub other_line : {xs : List ℕ} → length xs ≡ 32 → covers d.leadrow d.trailrow (offset a) ≡ false → Added d a xs xs
  unfolding factor
  other_line l e = unchanged l (λ b i. rw e refl)

  pub no_column : {xs : List ℕ} → length xs ≡ 32 → place_above d.leadcol ≤ place_above d.trailcol → Added d a xs xs
  unfolding factor
  no_column l h =
      unchanged l
      (λ b i.
      rw (covers_placed d.leadcol d.trailcol b i, apart (place_above d.trailcol) (place_above d.leadcol) b h)
      (ap (λ c. cond c 1 0) (and_no (covers d.leadrow d.trailrow (offset a)))))

-- ---- all rectangles

pub none_added : (f : ℕ → Rect) (a : ℕ) → LineDeltas 0 f a (replicate 32 delta_bias)
unfolding grid_at sum_ℤ
none_added f a =
    record {
      long = length-replicate {A = ℕ} 32 delta_bias;
      near = λ b i. rw (get_or-replicate 32 b delta_bias 0 i) (record { least = omega arith; most = omega arith });
      is = λ b i. rw (even b i) (diff_shift (diff_pos 0) (omega arith));
      close = λ b i. rw (even b i) (record { least = omega arith; most = omega arith });
    }
  where
    even : (b : ℕ) → b < 31 → up_to (replicate 32 delta_bias) b ≡ suc b * delta_bias
    even b i = sum_cong (suc b) (λ j k. get_or-replicate 32 j delta_bias 0 (omega arith)) ∙ sum_const (suc b) delta_bias

module _ {k : ℕ} {f : ℕ → Rect} {a : ℕ} {xs : List ℕ} (l : LineDeltas k f a xs) where
  pub one_added : {ys : List ℕ} → Added (f k) a xs ys → LineDeltas (suc k) f a ys
  unfolding grid_at
  one_added {ys} r =
      record {
        long = r.long;
        near = λ b i. let p = l.near b i in let q = r.near b i in record { least = omega arith; most = omega arith };
        is = λ b i. rw (sum_ℤ-suc) (diff_shift (diff_add (l.is b i) (r.is b i)) (omega arith));
        close = λ b i. let p = l.close b i in let q = r.close b i in record { least = omega arith; most = omega arith };
      }

  pub deltas_fit : k ≤ 16 → DeltasFit xs
  deltas_fit h = record { long = l.long; near = λ b i. let p = l.near b i in record { least = omega arith; most = omega arith } }

  pub entries_fit : k ≤ 16 → EntriesFit xs
  entries_fit h = record { long = l.long; close = λ b i. let p = l.close b i in record { least = omega arith; most = omega arith } }

  -- more rectangles, which add nothing
  pub more_added : {n : ℕ} → k ≤ n → ((b : ℕ) → grid_at n f a b ≡ grid_at k f a b) → LineDeltas n f a xs
  more_added h e =
      record {
        long = l.long;
        near = λ b i. let p = l.near b i in record { least = omega arith; most = omega arith };
        is = λ b i. rw (e b) (l.is b i);
        close = λ b i. let p = l.close b i in record { least = omega arith; most = omega arith };
      }

  -- the entries' parts by the differences
  pub high_parts : sum 31 (λ b. up_to xs b - suc b * delta_bias) ≡ line_sum pos_part k f a
  high_parts = sum_cong 31 (λ b i. sym (diff_pos_part (l.is b i)))

  pub low_parts : sum 31 (λ b. suc b * delta_bias - up_to xs b) ≡ line_sum neg_part k f a
  low_parts = sum_cong 31 (λ b i. sym (diff_neg_part (l.is b i)))

-- ---- one entry after the other

module _ {xs : List ℕ} (e : EntriesFit xs) (b entry : ℕ) (h : b < 31) (i : entry + b * delta_bias ≡ sum b (λ j. get_or xs j 0) + delta_bias) where
  reached : up_to xs b + delta_bias ≡ entry + get_or xs b 0 + b * delta_bias
  reached = let s = sum-suc b (λ j. get_or xs j 0) in omega arith

  pub next_most : entry + get_or xs b 0 ≤ 67633152
  next_most = let c = e.close b h in let r = reached in omega arith

  pub next_least : delta_bias ≤ entry + get_or xs b 0
  next_least = let c = e.close b h in let r = reached in omega arith

  pub next_is : entry + get_or xs b 0 - delta_bias + suc b * delta_bias ≡ sum (suc b) (λ j. get_or xs j 0) + delta_bias
  next_is = let r = reached in let l = next_least in omega arith

  pub next_high : entry + get_or xs b 0 - delta_bias - delta_bias ≡ up_to xs b - suc b * delta_bias
  next_high = let r = reached in omega arith

  pub next_low : delta_bias - (entry + get_or xs b 0 - delta_bias) ≡ suc b * delta_bias - up_to xs b
  next_low = let r = reached in let l = next_least in omega arith

  pub next_small : (entry + get_or xs b 0 - delta_bias - delta_bias ≤ entry_most) × (delta_bias - (entry + get_or xs b 0 - delta_bias) ≤ entry_most)
  next_small = let c = e.close b h in let r = reached in (omega arith, omega arith)
