-- `Spans::of` asks whether the extremes over the areas fit words of 32 bits unshifted, and the pixel word shifted.
-- Assumes nothing.
use Rattle.std.proofs.Common.{◌^◌, arith, ◌≡◌, refl, pow_pos}
use Rattle.layout.specs.declared.Table.{Table}
use Rattle.limits.specs.Limits.{word_good}
use Rattle.limits.proofs.Values.{extreme_fits, fit_by_sums}
use Rattle.limits.proofs.Granted.{Granted, granted, granted_word}
use Rattle.engine.specs.Rows.{narrow_table, sure_table}
use Rattle.engine.proofs.arriving.Spans.of.Goals as goal

pub overflow_sub-top : goal.overflow_sub-top
overflow_sub-top c =
    let t : Table = c.args.t.now in
    let bounds : Granted t = granted t c.requires in
    let power-is : c.power-top.result ≡ 2 ^ t.b = let l = bounds.bits_most in c.power-top.ensures.value (omega arith) in
    let e = power-is in let p = pow_pos (t).b in omega arith

pub overflow_mul-top : goal.overflow_mul-top
overflow_mul-top c =
    let t : Table = c.args.t.now in
    let bounds : Granted t = granted t c.requires in
    let power-is : c.power-top.result ≡ 2 ^ t.b = let l = bounds.bits_most in c.power-top.ensures.value (omega arith) in
    extreme_fits (bounds).bits_most (power-is) c.area_sums-e.ensures.high_le_sum_most.0

pub overflow_mul-top-2 : goal.overflow_mul-top-2
overflow_mul-top-2 c =
    let t : Table = c.args.t.now in
    let bounds : Granted t = granted t c.requires in
    let power-is : c.power-top.result ≡ 2 ^ t.b = let l = bounds.bits_most in c.power-top.ensures.value (omega arith) in
    extreme_fits (bounds).bits_most (power-is) c.area_sums-e.ensures.high_le_sum_most.1

pub overflow_mul-top-3 : goal.overflow_mul-top-3
overflow_mul-top-3 c =
    let t : Table = c.args.t.now in
    let bounds : Granted t = granted t c.requires in
    let power-is : c.power-top.result ≡ 2 ^ t.b = let l = bounds.bits_most in c.power-top.ensures.value (omega arith) in
    extreme_fits (bounds).bits_most (power-is) c.area_sums-e.ensures.high_le_sum_most.0

pub overflow_mul-top-4 : goal.overflow_mul-top-4
overflow_mul-top-4 c =
    let t : Table = c.args.t.now in
    let bounds : Granted t = granted t c.requires in
    let power-is : c.power-top.result ≡ 2 ^ t.b = let l = bounds.bits_most in c.power-top.ensures.value (omega arith) in
    extreme_fits (bounds).bits_most (power-is) c.area_sums-e.ensures.high_le_sum_most.1

pub returns-clause-narrow : goal.returns-clause-narrow
unfolding narrow_table word_good
returns-clause-narrow c =
    let t : Table = c.args.t.now in
    let bounds : Granted t = granted t c.requires in
    let power-is : c.power-top.result ≡ 2 ^ t.b = let l = bounds.bits_most in c.power-top.ensures.value (omega arith) in
    let e = c.area_sums-e.ensures.high_value in
    fit_by_sums t.b 0 32 refl power-is e.0 e.1 c.extremes_fit.ensures

pub returns-clause-sure : goal.returns-clause-sure
unfolding sure_table
returns-clause-sure c =
    let t : Table = c.args.t.now in
    let bounds : Granted t = granted t c.requires in
    let power-is : c.power-top.result ≡ 2 ^ t.b = let l = bounds.bits_most in c.power-top.ensures.value (omega arith) in
    let e = c.area_sums-e.ensures.high_value in
    fit_by_sums t.b t.t t.w (granted_word bounds) power-is e.0 e.1 c.extremes_fit-2.ensures
