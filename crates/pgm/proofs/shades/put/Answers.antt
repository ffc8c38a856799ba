-- Pixel after pixel is put, two bytes each.
use Rattle.std.proofs.Common.{◌≡◌, ℕ, ◌*◌, ◌+◌, ◌-◌, ◌^◌, ◌%◌, ◌≤◌, ap, ◌∙◌, add-one, get_or, pos, arith, rules, to_z-of_z, set, pow_mono}
use mir.Syntax.{w32}
use mir.Val.{SFits}
use Rattle.arith.proofs.Passes.{grid_none}
use Rattle.pgm.specs.Shade.{shade, byte_of}
use Rattle.pgm.proofs.Mapping.{word_range, two_set}
use Rattle.pgm.proofs.shades.put.Goals as goal

pub overflow_sub-floor : goal.overflow_sub-floor
overflow_sub-floor c = let r = (word_range _ c.requires.word).0 in omega arith

pub overflow_shl-floor : goal.overflow_shl-floor
overflow_shl-floor c = let r = (word_range _ c.requires.word).1 in omega arith

pub overflow_sub-floor-2 : goal.overflow_sub-floor-2
overflow_sub-floor-2 c =
    let r = (word_range _ c.requires.word).1 in
    let m : 2 ^ (c.args.w - 1) ≤ 2 ^ 31 = pow_mono {j = 31} (omega arith) in
    omega arith

pub shade-requires : goal.shade-requires
shade-requires c =
    let r = (word_range _ c.requires.word).1 in
    let m : 2 ^ (c.args.w - 1) ≤ 2 ^ 31 = pow_mono {j = 31} (omega arith) in
    (omega arith, c.saturating_sub-low.ensures, r)

pub loop-k-init : goal.loop-k-init
loop-k-init c = grid_none 2 (λ k. byte_of (shade c.args.w (get_or c.args.pixels.now k (pos 0)))) c.args.out.now

pub loop-k-preserved : goal.loop-k-preserved
unfolding byte_of
loop-k-preserved c =
    let k = c.loop-k.k in
    let pixels = c.args.pixels.now in
    let g = λ (k : ℕ). byte_of (shade c.args.w (get_or pixels k (pos 0))) in
    let fits : SFits w32 (get_or pixels k (pos 0)) = search rules in
    let sample = rw (to_z-of_z fits) at c.shade.ensures in
    let high : get_or c.to_be_bytes.result 0 0 ≡ g k 0 = ap (λ bs. get_or bs 0 0) c.to_be_bytes.ensures ∙ omega (arith, sample) in
    let low : get_or c.to_be_bytes.result 1 0 ≡ g k 1 = ap (λ bs. get_or bs 1 0) c.to_be_bytes.ensures ∙ omega (arith, sample) in
    rw (add-one k, high, low)
    (ap (λ out. set (set out (k * 2) (g k 0)) (k * 2 + 1) (g k 1)) c.loop-k.invariant ∙ two_set k g c.args.out.now 0 (omega arith))
