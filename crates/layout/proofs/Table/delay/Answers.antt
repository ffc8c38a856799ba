use Rattle.std.proofs.Common.{rules, ℕ, ◌≡◌, ◌≤◌, ◌<◌, length, refl, ap, sym, ◌∙◌, arith, get_or, FitsSigned, w8, to_z, of_z, to_z-of_z, add-one}
use Rattle.std.proofs.lemmas.List.{get_or-take}
use Rattle.std.proofs.Math.ListN.{get_or-eq_default}
use Rattle.arith.specs.Part.{pos_part}
use Rattle.arith.specs.Largest.{largest}
use Rattle.arith.proofs.Maxima.{largest_beyond}
use Rattle.layout.specs.Contents.{no_rect, rect}
use Rattle.layout.specs.Measure.{delay_of}
use Rattle.layout.proofs.Figures.{ord_max-nat}
use Rattle.layout.proofs.Table.delay.Goals as goal

pub loop-r-init : goal.loop-r-init
unfolding largest
loop-r-init c = record { so_far = refl; small = omega arith }

pub loop-r-preserved : goal.loop-r-preserved
unfolding largest
loop-r-preserved c = let t = c.args.self.now in let i = c.loop-r.r-index in
    let n : i < t.count = (let h = c.loop-r-test.true in let f = c.rects-r-items.ensures.fits in omega arith) in
    let e = ap (λ rs. get_or rs i no_rect) c.rects-r-items.ensures.items ∙ get_or-take t.count t.rects i no_rect n in
    let v = c.ahead.ensures.value in
    let m = c.max-d.ensures in
    let f : FitsSigned w8 (rect t i).leadrow = search rules in
    let w : c.ahead.result ≡ pos_part (rect t i).leadrow = v ∙ ap (λ r. pos_part (to_z w8 (of_z w8 r.leadrow))) e ∙ ap pos_part (to_z-of_z {w = w8} f) in
    let x = m ∙ ord_max-nat c.loop-r.d c.ahead.result in
    let l = c.loop-r.invariant.so_far in
    record { so_far = rw (add-one) (rw (← w, ← l) x); small = (let y = c.ahead.ensures.upper_bound in let z = c.loop-r.invariant.small in omega (arith, x)) }

pub returns : goal.returns
unfolding delay_of
returns c = let t = c.args.self.now in
    let f = c.rects-r-items.ensures.fits in
    let h = c.loop-r-test.false in
    let i = c.loop-r.auto.r-index-end in
    let far : length t.rects ≡ 16 = search rules in
    let none : (j : ℕ) → c.loop-r.r-index ≤ j → j < t.count → pos_part (rect t j).leadrow ≡ 0 =
    λ j h q. ap (λ r. pos_part r.leadrow) (get_or-eq_default t.rects no_rect {n = j} (omega arith)) in
    c.loop-r.invariant.so_far ∙ sym (largest_beyond c.loop-r.r-index t.count (λ k. pos_part (rect t k).leadrow) none (omega arith))
