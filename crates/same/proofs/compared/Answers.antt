-- No offset is left, or the first one goes out with its scan.
use Rattle.std.proofs.Common.{◌≡◌, ◌/◌, ◌%◌, ◌^◌, [], ◌∷◌, ap, arith, w32, to_z-of_z}
use borrow.Author.Tests.{lt-ltb}
use Rattle.layout.specs.Answers.{accepted, wrote}
use Rattle.grid.specs.Grid.{offset}
use Rattle.same.specs.Same.{compared_at}
use Rattle.same.proofs.compared.Goals as goal

pub returns-in_err-k : goal.returns-in_err-k
unfolding compared_at
returns-in_err-k c = rw (c.from_residual.ensures, ← c.in_err-k.ensures.first)

pub returns : goal.returns
unfolding compared_at
returns c =
    let power : c.power.result ≡ 2 ^ c.args.one.now.b = (let b = c.requires.bits in c.power.ensures.value (omega arith)) in
    let k = c.in_ok-k.k in
    rw (
      ← c.in_ok-k.ensures.first,
      lt-ltb _ _ c.in_ok-k.ensures.inside,
      to_z-of_z {w = w32} (record { sfits = c.offset.type_inv }),
      to_z-of_z {w = w32} (record { sfits = c.offset-2.type_inv }),
      c.offset.ensures,
      c.offset-2.ensures,
    )
    (ap (wrote (accepted (offset (k / 31) ∷ offset (k % 31) ∷ []))) (rw power at c.put_spot.ensures))
