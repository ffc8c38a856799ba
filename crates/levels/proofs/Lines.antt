-- The first columns of a store of counts, moved one after the other, and moved back.
-- Assumes nothing.
use Prim.Native.Nat.{ℕ, ◌+◌, ◌-◌, ◌*◌, ◌≤◌, ◌<◌}
use native.Mathlib.Nat.{mul-le-mul_right}
use native.Mathlib.Omega.{arith}
use mathlib.Core.Path.{◌≡◌, refl, ap, ap₂, ◌∙◌}
use mathlib.Core.List.{List, ◌++◌}
use lib.Dec.{T}
use lib.ListN.{length, get_or, drop}
use borrow.Rule.Slice.PartMut.{put_mid}
use Rattle.arith.specs.Tab.{tab, grid}
use Rattle.arith.proofs.Grids.{grid_at_lem, grid_cong, grid_long, grid_next, grid_own, next_line}
use Rattle.arith.proofs.Parts.{line_end_lem, part}
use Rattle.arith.proofs.Passes.{grid_none, grid_rest}
use Rattle.levels.specs.Levels.{count_of, count_at, moved_count, moved_count_at, column_good_at}
use Rattle.levels.specs.Fits.{ChangeFits, MoveFits}
use Rattle.levels.proofs.Changes.{moved_same, part_changed, part_fits, GoodColumn, good_column, good_fits, moved_back, back_fits}

module _ (width : ℕ) (counts₀ off : List ℕ) (less : ℕ) (on : List ℕ) (more : ℕ) where
  abbrev after : ℕ → ℕ → ℕ
  after = moved_count_at counts₀ off less on more

  -- the first c columns are moved
  pub record Columns (c : ℕ) (counts : List ℕ) : Type 0 where
    pub count : c ≤ width
    pub long : length counts ≡ length counts₀
    pub is : counts ≡ grid c 256 after ++ drop (c * 256) counts₀

  pub none_moved : Columns 0 counts₀
  none_moved = record { count = omega arith; long = refl; is = grid_none 256 after counts₀ }

  module _ {c : ℕ} {counts : List ℕ} (h : Columns c counts) where
    -- the counts of column c are still those that were there
    pub untouched : (v : ℕ) → count_at counts c v ≡ count_at counts₀ c v
    untouched v = ap (λ xs. get_or xs (c * 256 + v) 0) h.is ∙ grid_next c 256 after counts₀ v

    module _ (fit : width * 256 ≤ length counts₀) (l : c < width) where
      -- and end within the store
      pub ends : c * 256 + 256 ≤ length counts
      ends = let e = line_end_lem c width 256 (length counts₀) l fit in let n = h.long in omega arith

      -- they can be moved, where they could be at first
      pub next_fits : ChangeFits 256 (count_at counts₀ c) (get_or off c 0) less (get_or on c 0) more
          → ChangeFits (length (part (c * 256) 256 counts)) (count_of (part (c * 256) 256 counts)) (get_or off c 0) less (get_or on c 0) more
      next_fits f =
          part_fits counts c 256 ends record {
            off_level = f.off_level;
            on_level = f.on_level;
            counted = rw (untouched (get_or off c 0)) f.counted;
            room = rw (untouched (get_or on c 0)) f.room;
          }

      -- as they can where the column is good
      pub good_next : (levels most : ℕ) → T (column_good_at levels most counts₀ off less on more c) → levels ≤ 256 → most ≤ 255 → less ≤ 1 → more ≤ 1
          → ChangeFits (length (part (c * 256) 256 counts)) (count_of (part (c * 256) 256 counts)) (get_or off c 0) less (get_or on c 0) more
      good_next levels most t few small p q =
          next_fits (good_fits (good_column levels most (count_at counts₀ c) (get_or off c 0) less (get_or on c 0) more t) few small p q)

      -- one column more
      pub next_moved : {ys : List ℕ}
          → ys ≡ tab (length (part (c * 256) 256 counts)) (moved_count (count_of (part (c * 256) 256 counts)) (get_or off c 0) less (get_or on c 0) more)
          → Columns (c + 1) (put_mid (c * 256) (c * 256 + 256 - c * 256) counts ys)
      next_moved e =
          let next =
          part_changed counts c 256 ends (get_or off c 0) less (get_or on c 0) more e
          ∙ next_line c 256 after counts₀ {g = moved_count (count_at counts c) (get_or off c 0) less (get_or on c 0) more} h.is
          (λ v. moved_same (count_at counts c) (count_at counts₀ c) (get_or off c 0) less (get_or on c 0) more v (untouched v)) in
          record {
            count = omega arith;
            long = ap length next ∙ grid_long (c + 1) 256 after counts₀ (let m = mul-le-mul_right 256 l in omega arith);
            is = next;
          }

    -- all of them
    pub all_moved : width ≤ c → counts ≡ grid width 256 after ++ drop (width * 256) counts₀
    all_moved l = let n = h.count in let e : c ≡ width = omega arith in h.is ∙ ap (λ k. grid k 256 after ++ drop (k * 256) counts₀) e

    -- ---- back again, where the columns were good
    module _ (levels most : ℕ) (fit : width * 256 ≤ length counts₀)
        (asked : (k : ℕ) → k < c → T (column_good_at levels most counts₀ off less on more k)) where
      good : (k : ℕ) → k < c → GoodColumn levels most (count_at counts₀ k) (get_or off k 0) less (get_or on k 0) more
      good k l = good_column levels most (count_at counts₀ k) (get_or off k 0) less (get_or on k 0) more (asked k l)

      within : c * 256 ≤ length counts₀
      within = let m = mul-le-mul_right 256 h.count in omega arith

      moved_at : (k v : ℕ) → k < c → v < 256 → count_at counts k v ≡ after k v
      moved_at k v l m = ap (λ xs. get_or xs (k * 256 + v) 0) h.is ∙ grid_at_lem c 256 after (drop (c * 256) counts₀) 0 k v l m

      pub all_back : grid c 256 (moved_count_at counts on more off less) ++ drop (c * 256) counts ≡ counts₀
      all_back =
          ap₂ ◌++◌
          (grid_cong c 256 (λ k v l m.
          moved_same (count_at counts k) (after k) (get_or on k 0) more (get_or off k 0) less v (moved_at k v l m) ∙ moved_back (good k l) v))
          (ap (drop (c * 256)) h.is ∙ grid_rest c 256 after counts₀)
          ∙ grid_own c 256 counts₀ within

      pub back_all_fit : levels ≤ 256 → most ≤ 255 → less ≤ 1 → width ≤ length off → width ≤ length on → MoveFits c counts on more off less
      back_all_fit few small p i j =
          let n = h.long in
          let m = h.count in
          let w = within in
          record { counts_long = omega arith; off_long = omega arith; on_long = omega arith; each = λ k l. each k l }
        where
          each : (k : ℕ) → k < c → ChangeFits 256 (count_at counts k) (get_or on k 0) more (get_or off k 0) less
          each k l =
              let f = back_fits (good k l) few small p in
              record {
                off_level = f.off_level;
                on_level = f.on_level;
                counted = rw (moved_at k (get_or on k 0) l f.off_level) f.counted;
                room = rw (moved_at k (get_or off k 0) l f.on_level) f.room;
              }
