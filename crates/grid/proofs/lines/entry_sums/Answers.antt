use Rattle.std.proofs.Common.{◌≡◌, ◌∙◌, ◌<◌, ◌-◌, ◌*◌, suc, sym, ap, refl, arith, rules}
use Rattle.std.proofs.Math.Numerals.{add-one}
use Rattle.std.proofs.lemmas.List.{get_or-take, length-take-le}
use Rattle.arith.specs.Sum.{sum}
use Rattle.arith.proofs.Sums.{sum-suc}
use Rattle.grid.specs.Lines.{delta_bias, up_to}
use Rattle.grid.proofs.Deltas.{next_most, next_least, next_is, next_high, next_low, next_small}
use Rattle.grid.proofs.lines.entry_sums.Goals as goal

pub slice_bounds-delta-items-end : goal.slice_bounds-delta-items-end
slice_bounds-delta-items-end c = sym (length-take-le 31 c.args.deltas.now (let l = c.requires.long in omega arith))

pub loop-delta-init : goal.loop-delta-init
unfolding sum
loop-delta-init c = record { entry = refl; high = refl; low = refl; high_small = omega arith; low_small = omega arith }

pub offset_bounds-delta-items-delta-index : goal.offset_bounds-delta-items-delta-index
offset_bounds-delta-items-delta-index c =
    let n = length-take-le 31 c.args.deltas.now (let l = c.requires.long in omega arith) in
    let t : c.loop-delta.delta-index < 31 = omega (arith, n, c.loop-delta-test.true) in
    search (rules, t)

pub overflow_add-entry : goal.overflow_add-entry
overflow_add-entry c = let xs = c.args.deltas.now in
    let b = c.loop-delta.delta-index in
    let n = length-take-le 31 xs (let l = c.requires.long in omega arith) in
    let t : b < 31 = omega (arith, n, c.loop-delta-test.true) in
    let g = get_or-take 31 xs b 0 t in
    let m = next_most c.requires b c.loop-delta.entry t c.loop-delta.invariant.entry in
    rw g (search (rules, m))

pub overflow_sub-entry : goal.overflow_sub-entry
overflow_sub-entry c = let xs = c.args.deltas.now in
    let b = c.loop-delta.delta-index in
    let n = length-take-le 31 xs (let l = c.requires.long in omega arith) in
    let t : b < 31 = omega (arith, n, c.loop-delta-test.true) in
    rw (get_or-take 31 xs b 0 t) (next_least c.requires b c.loop-delta.entry t c.loop-delta.invariant.entry)

pub overflow_add-high : goal.overflow_add-high
overflow_add-high c = let xs = c.args.deltas.now in
    let b = c.loop-delta.delta-index in
    let n = length-take-le 31 xs (let l = c.requires.long in omega arith) in
    let t : b < 31 = omega (arith, n, c.loop-delta-test.true) in
    let m = next_small c.requires b c.loop-delta.entry t c.loop-delta.invariant.entry in
    let e = rw (get_or-take 31 xs b 0 t) at c.saturating_sub-high.ensures in
    search (rules, m.0, e)

pub overflow_add-low : goal.overflow_add-low
overflow_add-low c = let xs = c.args.deltas.now in
    let b = c.loop-delta.delta-index in
    let n = length-take-le 31 xs (let l = c.requires.long in omega arith) in
    let t : b < 31 = omega (arith, n, c.loop-delta-test.true) in
    let m = next_small c.requires b c.loop-delta.entry t c.loop-delta.invariant.entry in
    let e = rw (get_or-take 31 xs b 0 t) at c.saturating_sub-low.ensures in
    search (rules, m.1, e)

pub loop-delta-preserved : goal.loop-delta-preserved
loop-delta-preserved c =
    let p = c.requires in
    let xs = c.args.deltas.now in
    let b = c.loop-delta.delta-index in
    let i = c.loop-delta.invariant in
    let l = length-take-le 31 xs (let l = c.requires.long in omega arith) in
    let t : b < 31 = omega (arith, l, c.loop-delta-test.true) in
    let g = get_or-take 31 xs b 0 t in
    let n = next_is p b c.loop-delta.entry t i.entry in
    let h = next_high p b c.loop-delta.entry t i.entry in
    let w = next_low p b c.loop-delta.entry t i.entry in
    let m = next_small p b c.loop-delta.entry t i.entry in
    let x = rw g at c.saturating_sub-high.ensures in
    let y = rw g at c.saturating_sub-low.ensures in
    record {
      entry = rw (g, add-one b) n;
      high = rw (add-one b, sum-suc) (omega (arith, i.high));
      low = rw (add-one b, sum-suc) (omega (arith, i.low));
      high_small = omega (arith, i.high_small);
      low_small = omega (arith, i.low_small);
    }

pub returns : goal.returns
returns c =
    let xs = c.args.deltas.now in
    let i = c.loop-delta.invariant in
    let n = length-take-le 31 xs (let l = c.requires.long in omega arith) in
    let e : c.loop-delta.delta-index ≡ 31 = (let h = c.loop-delta-test.false in let m = c.loop-delta.auto.delta-index-end in omega arith) in
    record {
      high_value = c.from.ensures ∙ i.high ∙ ap (λ k. sum k (λ b. up_to xs b - suc b * delta_bias)) e;
      low_value = c.from-2.ensures ∙ i.low ∙ ap (λ k. sum k (λ b. suc b * delta_bias - up_to xs b)) e;
      high_le_line_most = (omega (arith, c.from.ensures, i.high_small), omega (arith, c.from-2.ensures, i.low_small));
    }
