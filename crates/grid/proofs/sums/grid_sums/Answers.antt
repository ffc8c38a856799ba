-- `grid::grid_sums`: the sums of a band's first line are taken once for each of its lines; the invariant is the sums of the lines passed.
-- Assumes nothing.
use Rattle.std.proofs.Common.{arith, ◌≡◌, refl, ap, ◌∙◌, rules}
use Rattle.arith.specs.Sum.{sum}
use Rattle.arith.specs.Part.{pos_part, neg_part}
use Rattle.layout.specs.Contents.{rect}
use Rattle.grid.specs.Grid.{grid_sum}
use Rattle.grid.specs.Lines.{line_sum}
use Rattle.grid.proofs.Bands.{band_sum, band_small}
use Rattle.grid.proofs.sums.grid_sums.Goals as goal

pub loop-a-init : goal.loop-a-init
unfolding sum
loop-a-init c = (search rules, refl, refl, search rules, search rules)

pub loop-a-preserved : goal.loop-a-preserved
loop-a-preserved c =
    let t = c.args.t.now in
    let a = c.loop-a.a in
    let i = c.loop-a.invariant in
    let end = c.band_end-end.result in
    let n = c.band_end-end.ensures in
    let e = c.line_sums-line.result in
    let o = c.line_sums-line.ensures in
    rw c.from-lines.ensures (
      n.lower_bound.1,
      band_sum a end n.lower_bound.0 c.loop-a.high e.high pos_part t n.by_index o.high i.1,
      band_sum a end n.lower_bound.0 c.loop-a.low e.low neg_part t n.by_index o.low i.2,
      band_small a end n.lower_bound.0 c.loop-a.high e.high i.3 o.high_small,
      band_small a end n.lower_bound.0 c.loop-a.low e.low i.4 o.low_small,
    )

pub returns-clause-high_value : goal.returns-clause-high_value
unfolding grid_sum
returns-clause-high_value c =
    let t = c.args.t.now in
    let i = c.loop-a.invariant in
    let e : c.loop-a.a ≡ 31 = omega arith in
    (i.1 ∙ ap (λ n. sum n (line_sum pos_part t.count (rect t))) e, i.2 ∙ ap (λ n. sum n (line_sum neg_part t.count (rect t))) e)
