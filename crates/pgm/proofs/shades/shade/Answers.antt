-- The pixel above the smallest of its word, less the bits that 16 do not hold.
use Rattle.std.proofs.Common.{◌/◌, ◌^◌, min, ap₂, ◌∙◌, arith, to_z-of_z}
use Rattle.pgm.proofs.Mapping.{shade_is}
use Rattle.pgm.proofs.shades.shade.Goals as goal

pub returns : goal.returns
returns c =
    let e = shade_is c.args.w c.args.floor c.requires.0 (rw (to_z-of_z c.ranges.z) at c.biased_long.ensures.diff) in
    c.min.ensures ∙ ap₂ (λ x k. min (x / 2 ^ k) 65535) c.saturating_sub-raised.ensures c.requires.1 ∙ omega (arith, e)
