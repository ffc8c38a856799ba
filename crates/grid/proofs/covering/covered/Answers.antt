use Rattle.std.proofs.Common.{◌≡◌, ◌∙◌, refl, true, false, rules, arith, ℕ, ◌<◌, ◌-ℤ◌, pos, FitsSigned, w8, w32, to_z, of_z, to_z-of_z}
use Rattle.std.specs.Int.Signed.{lt_z}
use Rattle.std.proofs.Math.Facts.{to_z_pos}
use Rattle.std.proofs.lemmas.Int.{ints}
use Rattle.grid.specs.Grid.{covers, offset}
use Rattle.grid.proofs.covering.covered.Goals as goal

-- the offset of line a, and an edge, as 32 bits hold them
offset_is : (a : ℕ) → a < 31 → to_z w32 (of_z w32 (to_z w32 a -ℤ pos 15)) ≡ offset a
offset_is a h =
    let p : to_z w32 a ≡ pos a = to_z_pos w32 (omega arith) in
    let e : (pos a -ℤ pos 15) ≡ offset a = omega (arith, ints) in
    rw (p, e) (to_z-of_z {w = w32} (grind (arith, ints)))

pub returns-then-from-offset : goal.returns-then-from-offset
unfolding covers
returns-then-from-offset c = let o = offset_is c.args.a c.requires in
    let t = c.from.ensures ∙ to_z-of_z {w = w8} c.ranges.trail in
    let l = c.from-then-from-offset.ensures ∙ to_z-of_z {w = w8} c.ranges.lead in
    let f : FitsSigned w32 c.from.result = search rules in
    let g : FitsSigned w32 c.from-then-from-offset.result = search rules in
    let test : lt_z c.args.trail (offset c.args.a) ≡ true = rw (to_z-of_z {w = w32} f, t, o) at c.if-from-offset.true in
    rw (to_z-of_z {w = w32} g, l, o, test) refl

pub returns-else-from-offset : goal.returns-else-from-offset
unfolding covers
returns-else-from-offset c = let o = offset_is c.args.a c.requires in
    let t = c.from.ensures ∙ to_z-of_z {w = w8} c.ranges.trail in
    let f : FitsSigned w32 c.from.result = search rules in
    let test : lt_z c.args.trail (offset c.args.a) ≡ false = rw (to_z-of_z {w = w32} f, t, o) at c.if-from-offset.false in
    rw (to_z-of_z {w = w32} f, t, o, test) refl
