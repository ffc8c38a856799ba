use Rattle.std.proofs.Common.{◌≡◌, ◌∙◌, ap, ap₂, ◌++◌, arith, ℕ, Option, None, length, drop, replicate}
use Rattle.std.proofs.lemmas.List.{length-take-le, length-replicate}
use Rattle.arith.specs.Tab.{tab}
use Rattle.arith.proofs.Tabs.{length-tab}
use Rattle.figures.specs.declared.Figures.{Figures}
use Rattle.figures.specs.Measured.{figures_of}
use Rattle.choices.specs.Choices.{with_drops, unbeaten}
use Rattle.choices.specs.Stores.{stored}
use Rattle.choices.proofs.Stored.{marks_are}
use Rattle.choices.proofs.marks.mark.Goals as goal

pub returns-clause-marks_after : goal.returns-clause-marks_after
returns-clause-marks_after g c =
    let t = c.args.t.now in
    let n = c.choice_count-n.result in
    let v = c.choice_count-n.ensures.value in
    let b = c.choice_count-n.ensures.upper_bound in
    let f : ℕ → Option Figures = λ i. figures_of (with_drops t i) c.args.width in
    let figures = c.rate.new.figures in
    let s = length-replicate {A = Option Figures} 972 None in
    let r : figures ≡ tab n f = c.rate.ensures ∙ ap (λ m. tab m f) (length-take-le n (replicate 972 None) (omega arith)) in
    let m : length figures ≡ n = ap length r ∙ length-tab n f in
    let o = length-take-le n c.args.marks.now (let h = c.told-marks in omega arith) in
    let mark = g.M.Flag.flag_of in
    let e = c.mark_each.ensures ∙ ap₂ (λ j k. tab j (λ i. mark (unbeaten k (stored figures) i))) o m in
    ap₂ ◌++◌ (e ∙ marks_are mark t c.args.width n r v) (ap (λ k. drop k c.args.marks.now) v)
