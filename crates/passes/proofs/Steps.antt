-- Laws of the two steps of a column sum, which wrap at 2^32.
-- Assumes nothing.
use Rattle.std.proofs.Common.{◌∙◌, ◌≡◌, ℕ, ◌+◌, ◌-◌, ◌*◌, ◌/◌, ◌%◌, ◌^◌, ◌<◌, ◌≤◌, ◌&&◌, T, ltb, leb, lt_of_le_of_lt, div-le_self, arith, le→leb, ltb→lt, lt→ltb, leb→le, w16, w32, Fits, bit_or}
use native.Mathlib.Nat.{div-add-mod}
use mir.Facts.{and_yes, yes_and, Fits-widen}
use Rattle.arith.proofs.Alls.{or_below}
use Rattle.arith.proofs.Bools.{bool_eq}
use Rattle.passes.specs.Passes.{bound_most, bound_end, movable, stepped}

-- what is left after the leaving sample, and to the bound after the entering one, are below 2^17 exactly when the sum may move
pub step_good :
    (stored off on bound less s left : ℕ) → stored < 4294967296 → off < 65536 → on < 65536 → bound ≤ bound_most
    → less ≡ (stored + (4294967296 - off)) % 4294967296 → s ≡ (less + on) % 4294967296 → left ≡ (bound + (4294967296 - s)) % 4294967296
    → ltb (bit_or less left) bound_end ≡ movable stored off on bound
step_good stored off on bound less s left a b c m f g h =
    or_below 17 less left
    ∙ bool_eq (ltb less bound_end && ltb left bound_end) (movable stored off on bound)
    (λ t.
    let k = and_yes (ltb less bound_end) (ltb left bound_end) t in
    let x = ltb→lt less bound_end k.0 in
    let y = ltb→lt left bound_end k.1 in
    yes_and (leb off stored) (leb (stored - off + on) bound) (le→leb off stored (omega arith)) (le→leb (stored - off + on) bound (omega arith)))
    (λ t.
    let k = and_yes (leb off stored) (leb (stored - off + on) bound) t in
    let x = leb→le off stored k.0 in
    let y = leb→le (stored - off + on) bound k.1 in
    yes_and (ltb less bound_end) (ltb left bound_end) (lt→ltb less bound_end (omega arith)) (lt→ltb left bound_end (omega arith)))

-- both steps as they are taken
pub step_sum : (stored off on less s : ℕ) → (less + off) % 4294967296 ≡ stored → s ≡ (less + on) % 4294967296 → s ≡ stepped stored off on
step_sum stored off on less s f g =
    let p = div-add-mod (less + off) 4294967296 in
    let q = div-add-mod (less + on) 4294967296 in
    let r = div-add-mod (stored + 4294967295 * off + on) 4294967296 in
    omega arith

-- a sum that may move does not wrap
pub step_exact : (stored off on bound : ℕ) → bound ≤ bound_most → T (movable stored off on bound) → stepped stored off on ≡ stored - off + on
step_exact stored off on bound e t =
    let h = and_yes (leb off stored) (leb (stored - off + on) bound) t in
    let x = leb→le off stored h.0 in
    let y = leb→le (stored - off + on) bound h.1 in
    let r = div-add-mod (stored + 4294967295 * off + on) 4294967296 in
    omega arith

-- both steps with leaving and entering exchanged take both back
pub step_back : (stored off on : ℕ) → stored < 4294967296 → stepped (stepped stored off on) on off ≡ stored
step_back stored off on h =
    let p = div-add-mod (stored + 4294967295 * off + on) 4294967296 in
    let q = div-add-mod (stepped stored off on + 4294967295 * on + off) 4294967296 in
    omega arith

-- a truncated sample fits 32 bits
pub cut_fits : (x q : ℕ) → Fits w16 x → Fits w32 (x / 2 ^ q)
cut_fits x q f = record { fits = lt_of_le_of_lt (div-le_self x (2 ^ q)) (Fits-widen {w = w16} {w' = w32} tt f).fits }
