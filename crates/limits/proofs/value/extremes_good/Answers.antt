-- Question 10 by the areas where they suffice or bits are dropped, else by the grid, whose extremes are never larger.
use Rattle.std.proofs.Common.{◌≡◌, ◌^◌, ◌+◌, ◌<◌, T, sym, ◌∙◌, subst, arith}
use Rattle.arith.proofs.Bools.{true_of}
use Rattle.layout.specs.declared.Table.{Table}
use Rattle.layout.specs.Contents.{contents}
use Rattle.limits.specs.Slots.{areas_fit}
use Rattle.limits.proofs.Values.{drops_none, drops_some, value_by, areas_slots, areas_suffice, fit_by_sums}
use Rattle.limits.proofs.value.extremes_good.Goals as goal

pub returns-then-extremes_fit : goal.returns-then-extremes_fit
returns-then-extremes_fit c =
    let t : Table = c.args.t in
    let s = c.area_sums-a.ensures.high_value in
    let power : c.power-top.result ≡ 2 ^ t.b = c.power-top.ensures.value (omega arith) in
    let by_areas : c.extremes_fit.result ≡ areas_fit t t.t t.w = fit_by_sums t.b t.t t.w c.requires.head_good.word power s.0 s.1 c.extremes_fit.ensures in
    sym (true_of _ (areas_suffice (contents t) (subst T (sym c.if-extremes_fit.true ∙ by_areas ∙ sym (areas_slots t)) tt)))

pub returns-then-t-gt0 : goal.returns-then-t-gt0
returns-then-t-gt0 c =
    let t : Table = c.args.t in
    let s = c.area_sums-a.ensures.high_value in
    let power : c.power-top.result ≡ 2 ^ t.b = c.power-top.ensures.value (omega arith) in
    let by_areas : c.extremes_fit.result ≡ areas_fit t t.t t.w = fit_by_sums t.b t.t t.w c.requires.head_good.word power s.0 s.1 c.extremes_fit.ensures in
    let e = c.then-t-gt0.either in
    let some : 0 < t.q1 + t.q2 + t.q3 = omega (arith, e) in
    sym (value_by t (drops_some (contents t) some) ∙ sym by_areas ∙ c.if-extremes_fit.false)

pub returns : goal.returns
returns c =
    let t : Table = c.args.t in
    let s = c.grid_sums-g.ensures.high_value in
    let power : c.power-top.result ≡ 2 ^ t.b = c.power-top.ensures.value (omega arith) in
    let none : t.q1 + t.q2 + t.q3 ≡ 0 = omega (arith, c.if-t-gt0.false, c.if-t-gt0-2.false, c.if-t-gt0-3.false) in
    fit_by_sums t.b t.t t.w c.requires.head_good.word power s.0 s.1 c.extremes_fit-2.ensures ∙ sym (value_by t (drops_none (contents t) none))
