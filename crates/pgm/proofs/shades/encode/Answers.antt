-- As many pixels as there are places for.
use Rattle.std.proofs.Common.{◌≡◌, ◌++◌, ◌*◌, take, drop, get_or, length, pos, sym, ap, ◌∙◌, arith}
use Rattle.std.proofs.lemmas.List.{get_or-take, length-take}
use Rattle.arith.specs.Tab.{grid}
use Rattle.pgm.specs.Shade.{shade, byte_of, encoded_count, encoded}
use Rattle.arith.proofs.Grids.{grid_cong}
use Rattle.pgm.proofs.shades.encode.Goals as goal

pub returns-then-not-word_good-clause-out_after : goal.returns-then-not-word_good-clause-out_after
unfolding encoded encoded_count grid
returns-then-not-word_good-clause-out_after c = rw (sym c.word_good.ensures ∙ c.if-not-word_good.true)

pub returns-clause-out_after : goal.returns-clause-out_after
unfolding encoded encoded_count
returns-clause-out_after c =
    let zs = c.args.pixels.now in
    let n = c.min-n.result in
    let long : length (take n zs) ≡ n = length-take n zs ∙ omega arith in
    let same = grid_cong n 2 {f = λ k. byte_of (shade c.args.w (get_or (take n zs) k (pos 0)))} {g = λ k. byte_of (shade c.args.w (get_or zs k (pos 0)))}
    (λ k j h _. ap (λ z. byte_of (shade c.args.w z) j) (get_or-take n zs k (pos 0) h)) in
    rw (sym c.word_good.ensures ∙ c.if-not-word_good.false, ← c.min-n.ensures)
    (rw long at c.put.ensures ∙ ap (λ bytes. bytes ++ drop (n * 2) c.args.out.now) same)
