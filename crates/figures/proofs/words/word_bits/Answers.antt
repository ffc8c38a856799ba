use Rattle.std.proofs.Common.{◌≡◌, ◌∙◌, ◌<◌, ◌≤◌, ◌+◌, ◌*◌, ap, refl, arith}
use Rattle.std.proofs.Math.Nat.{mul-le-mul, le_of_lt}
use Rattle.std.proofs.Math.Numerals.{add-one}
use Rattle.arith.specs.Largest.{largest}
use Rattle.arith.specs.Sum.{sum}
use Rattle.arith.proofs.Maxima.{largest-suc}
use Rattle.arith.proofs.Sums.{sum-suc}
use Rattle.grid.proofs.Entries.{taken}
use Rattle.figures.specs.Measured.{widest_column, widest_window, sums_bits}
use Rattle.figures.proofs.words.word_bits.Invariants.{col, win, words_most}
use Rattle.figures.proofs.words.word_bits.Goals as goal

pub loop-r-init : goal.loop-r-init
unfolding sum largest
loop-r-init c = record { column = refl; window = refl; sums = refl; small = omega arith }

pub loop-r-preserved : goal.loop-r-preserved
loop-r-preserved c =
    let t = c.args.t.now in
    let i = c.loop-r.invariant in
    let k = c.loop-r.r-index in
    let n : k < t.count = (let h = c.loop-r-test.true in let f = c.rects-r-items.ensures.fits in omega arith) in
    let e = taken t k c.rects-r-items.ensures.items n in
    let cw : c.column_word-column.result ≡ col t k = rw e at c.column_word-column.ensures in
    let ww : c.window_word-window.result ≡ win t k = rw e at c.window_word-window.ensures in
    let x = c.max.ensures in
    let y = c.max-in-loop-r.ensures in
    let u = c.from.ensures in
    let v = c.from-in-loop-r.ensures in
    let p : c.args.width * c.from.result ≡ c.args.width * col t k = ap (λ n. c.args.width * n) (u ∙ cw) in
    let step : c.args.width * c.from.result + c.from-in-loop-r.result ≤ words_most =
    (let w = c.window_word-window.type_inv in
    let m = mul-le-mul c.requires.1 (le_of_lt c.column_word-column.type_inv) in
    let q : c.args.width * c.from.result ≡ c.args.width * c.column_word-column.result = ap (λ n. c.args.width * n) u in
    omega arith) in
    record {
      column = rw (add-one, largest-suc) (omega (arith, x, i.column, cw));
      window = rw (add-one, largest-suc) (omega (arith, y, i.window, ww));
      sums = rw (add-one, sum-suc) (omega (arith, i.sums, p, v, ww));
      small = omega (arith, i.small, step);
    }

pub returns : goal.returns
unfolding widest_column widest_window sums_bits
returns c =
    let t = c.args.t.now in
    let i = c.loop-r.invariant in
    let w = c.requires.0 in
    let f = c.rects-r-items.ensures.fits in
    let m = c.loop-r.auto.r-index-end in
    let h = c.loop-r-test.false in
    let e : c.loop-r.r-index ≡ t.count = omega arith in (
      i.column ∙ ap (λ n. largest n (col t)) e,
      i.window ∙ ap (λ n. largest n (win t)) e,
      i.sums ∙ ap (λ n. sum n (λ j. c.args.width * col t j + win t j)) e,
    )
