-- Zeros, and then the one sample.
use Rattle.std.proofs.Common.{◌≡◌, ◌+◌, ◌*◌, ◌++◌, ap, ◌∙◌, set, take, drop, length, replicate, arith}
use Rattle.std.proofs.lemmas.List.{length-take-le}
use Rattle.arith.proofs.Std.{filled}
use Rattle.same.proofs.Spots.{spot_stored}
use Rattle.same.proofs.spot.put_spot.Goals as goal

pub returns : goal.returns
returns c =
    let a = c.args in
    let l : length (take 961 a.scan.now) ≡ 961 = length-take-le 961 a.scan.now (omega arith) in
    ap (λ xs. set (xs ++ drop 961 a.scan.now) (31 * a.a + a.b) a.top)
    (c.fill.ensures.after (λ y h. h) ∙ ap (λ k. replicate k 0) l ∙ filled 961 0)
    ∙ spot_stored a.top a.a a.b a.scan.now (omega arith) (omega arith) (omega arith)
