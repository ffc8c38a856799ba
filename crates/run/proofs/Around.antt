-- What stands around a sequence of calls: files, the one-pixel call, refused starts and tables.
-- Assumes nothing.
use Prim.Native.Nat.{ℕ, ◌*◌, ◌/◌, ◌^◌, ◌-◌, ◌≤◌, ◌<◌}
use native.Mathlib.Nat.{mul-div_cancel, mul_comm}
use native.Mathlib.Omega.{arith}
use mathlib.Core.Path.{◌≡◌, refl, ap, ◌∙◌}
use mathlib.Core.Bool.{Bool, true, false, ◌&&◌}
use mathlib.Core.List.{List, [], ◌∷◌}
use lib.Dec.{T}
use lib.IntN.{pos}
use lib.ListN.{length}
use borrow.Author.Tests.{le-leb, lt-ltb, eq-eqb}
use Rattle.arith.specs.All.{all}
use Rattle.arith.proofs.Bools.{true_of}
use Rattle.layout.specs.declared.Table.{Table}
use Rattle.layout.specs.Contents.{Contents}
use Rattle.layout.specs.Answers.{refused, accepted, Left}
use Rattle.layout.specs.Sequences.{replies}
use Rattle.layout.proofs.Questions.{each_way}
use Rattle.limits.specs.Limits.{acceptable}
use Rattle.table.specs.Format.{Bytes, refused as no_table, loaded, load_of, table_from}
use Rattle.table.proofs.Theorems.{loaded_accepted, refused_table}
use Rattle.rule.specs.Questions.{width_good, height_good, place_good, sample_good}
use Rattle.rule.specs.Pixels.{pixel_of}
use Rattle.rule.proofs.Asked.{width_bounds}
use Rattle.pixel.specs.Call.{pixel_asks, pixel_answer}
use Rattle.arrival.specs.Arrivals.{stores_good}
use Rattle.scan.specs.Calls.{World, world, agrees, fresh, start_asks, start_of, row_asks, row_of, close_of, step_of}
use Rattle.burst.specs.Bursts.{with_counts, burst_asks, burst_of}
use Rattle.model.specs.Rows.{flat, scanned, good_rows}
use Rattle.model.specs.Machines.{row_call, close_call, step_call, out_of as out_of_single, opened}
use Rattle.model.specs.Refusals.{Refuses14}
use Rattle.model.proofs.Rows.{flat-length, flat_bits}
use Rattle.model.proofs.Refusals.{refuses}
use Rattle.run.specs.Holds.{Starts}
use Rattle.run.specs.Sequences.{filter_of, Call, single, rows_call, out_of, engine, answers}
use Rattle.run.proofs.Sequences.{sequence}

-- ---- files

-- J3: the table that loading hands out for an accepted file is one that starting accepts, so that every theorem on sequences holds of it
pub file_starts : (bs : List ℕ) (c : Contents) → Bytes bs → load_of bs ≡ loaded c → (l : ℕ) (samples sums : List ℕ) → width_good l ≡ true
    → stores_good l (table_from (load_of bs)).count (length samples) (length sums) ≡ true → Starts (table_from (load_of bs)) l samples sums
file_starts bs c byte e l samples sums wide long = record { table = (loaded_accepted bs c byte e).1; width = wide; stores = long }

pub file_sequence : (bs : List ℕ) (c : Contents) → Bytes bs → load_of bs ≡ loaded c → (l : ℕ) (samples sums : List ℕ) → width_good l ≡ true
    → stores_good l (table_from (load_of bs)).count (length samples) (length sums) ≡ true
    → (cs : List Call)
    → replies engine (start_of (table_from (load_of bs)) l samples sums).state cs ≡ replies (answers (filter_of (table_from (load_of bs)) l)) opened cs
file_sequence bs c byte e l samples sums wide long =
    sequence (table_from (load_of bs)) l samples sums (file_starts bs c byte e l samples sums wide long)

-- ---- the one-pixel call

-- Q7: on the scan of rows that were taken it answers the pixel that the engine gives out
pub pixel_agrees :
    (t : Table) (l : ℕ) (rows : List (List ℕ)) → acceptable t ≡ true → width_good l ≡ true → T (good_rows l t.b rows) → length rows ≤ 65535
    → (r c : ℕ) → r < length rows → c < l → pixel_answer t l (flat rows) r c ≡ accepted (pixel_of t (scanned l rows) (pos r) (pos c) ∷ [])
unfolding pixel_answer pixel_asks height_good place_good
pixel_agrees t l rows ok wide h few r c p q =
    let n = flat-length l t.b rows h in
    let w = (width_bounds wide).0 in
    let d : length (flat rows) / l ≡ length rows = ap (λ m. m / l) n ∙ mul-div_cancel (length rows) w in
    let e : length (flat rows) ≡ l * length rows = n ∙ mul_comm (length rows) l in
    rw (
      ok,
      wide,
      d,
      eq-eqb (length (flat rows)) (l * length rows) e,
      le-leb 1 (length rows) (omega arith),
      le-leb (length rows) 65535 few,
      lt-ltb r (length rows) p,
      lt-ltb c l q,
      true_of (all (length (flat rows)) (sample_good (2 ^ t.b - 1) (flat rows))) (flat_bits l t.b rows h),
    )
    refl

-- ---- a state that does not agree

abbrev Refuses : World → Call → Type 0
Refuses w c = Refuses14 (engine w c) w (out_of c)

-- every call on it is refused with 14, and changes nothing
pub disagreeing : (w : World) → agrees w.scan ≡ false → (c : Call) → Refuses w c
unfolding engine out_of out_of_single row_of row_asks burst_of burst_asks close_of step_of
disagreeing w e (single (row_call row out)) = refuses _ (refused 14 0) w out refl refl (rw e refl)
disagreeing w e (single close_call) = refuses _ (refused 14 0) w [] refl refl (rw e refl)
disagreeing w e (single (step_call out)) = refuses _ (refused 14 0) w out refl refl (rw e refl)
disagreeing w e (rows_call rows out) = refuses _ (with_counts (refused 14 0) 0 0) w out refl refl (rw e refl)

no_width : (t : Table) → agrees (fresh t 0) ≡ false
unfolding agrees width_good
no_width t = go (acceptable t)
  where
    go : (b : Bool) → (b && false) ≡ false
    go true = refl
    go false = refl

-- J4: the scan of a refused start
pub refused_start : (t : Table) (l : ℕ) (samples sums : List ℕ) (n p : ℕ) → (start_of t l samples sums).said ≡ refused n p
    → (c : Call) → Refuses (start_of t l samples sums).state c
unfolding start_of
refused_start t l samples sums n p =
    each_way (λ (x : Left World). x.said ≡ refused n p → (c : Call) → Refuses x.state c) (start_asks t l (length samples) (length sums)) _ _
    (λ i j e. disagreeing (world (fresh t 0) samples sums) (no_width t))
    (λ y e c. absurd (let z : ◌≡◌ {A = ℕ} 1 0 = ap (λ s. s.kind) e in omega arith))

-- J4: the table of a refused load, in starting and inside a scan
pub refused_load : (bs : List ℕ) (n p : ℕ) → load_of bs ≡ no_table n p → (l : ℕ) (samples sums : List ℕ)
    → (start_of (table_from (load_of bs)) l samples sums).said ≡ refused 11 0
unfolding start_of start_asks
refused_load bs n p e l samples sums = rw (refused_table bs n p e).0 refl

pub refused_load_scan : (bs : List ℕ) (n p : ℕ) → load_of bs ≡ no_table n p → (w : World) → w.scan.table ≡ table_from (load_of bs) → (c : Call) → Refuses w c
unfolding agrees
refused_load_scan bs n p e w f = disagreeing w (rw (f, (refused_table bs n p e).0) refl)
