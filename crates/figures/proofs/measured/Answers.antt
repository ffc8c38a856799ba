use Rattle.std.proofs.Common.{◌≡◌, ℕ, ◌≤◌, sym, true, T, leb, leb→le, subst, refl}
use Rattle.std.proofs.Math.Facts.{and_yes}
use Rattle.layout.specs.declared.Table.{Table}
use Rattle.limits.proofs.Granted.{granted}
use Rattle.arith.specs.Part.{pos_part, neg_part}
use Rattle.rule.specs.Accuracy.{loss_under}
use Rattle.rule.specs.Questions.{width_good}
use Rattle.figures.specs.declared.Figures.{Figures}
use Rattle.figures.specs.Measured.{widest_column, widest_window, sums_bits, ceil_div, pixels_above, pixels_below, measured}
use Rattle.figures.proofs.measured.Goals as goal

-- the figures by their five parts
made : (t : Table) (l : ℕ) {c w s b a x y : ℕ} → c ≡ widest_column t → w ≡ widest_window t → s ≡ sums_bits t l → x ≡ loss_under neg_part t
    → y ≡ loss_under pos_part t → b ≡ ceil_div x t.t → a ≡ ceil_div y t.t
    → ◌≡◌ {A = Figures} (record { column = c; window = w; sums = s; below = b; above = a }) (measured t l)
unfolding pixels_above pixels_below
made t l ec ew es ex ey eb ea = rw (ec, ew, es, eb, ea, ex, ey) refl

width_most : (l : ℕ) → width_good l ≡ true → l ≤ 1024
unfolding width_good
width_most l e = leb→le l 1024 (and_yes (leb 1 l) (leb l 1024) (subst T (sym e) tt)).1

pub word_bits-words-requires : goal.word_bits-words-requires
word_bits-words-requires c = ((granted c.args.t.now c.requires.0).few, width_most c.args.width c.requires.1)

pub ceil_shift-requires : goal.ceil_shift-requires
ceil_shift-requires c = (c.loss_sums-losses.ensures.below_le_shares_most.0, (granted c.args.t.now c.requires.0).shift_most)

pub ceil_shift-requires-2 : goal.ceil_shift-requires-2
ceil_shift-requires-2 c = (c.loss_sums-losses.ensures.below_le_shares_most.1, (granted c.args.t.now c.requires.0).shift_most)

pub returns : goal.returns
returns c =
    let e = c.word_bits-words.ensures in
    let f = c.loss_sums-losses.ensures.below_value in
    made c.args.t.now c.args.width e.0 e.1 e.2 f.0 f.1 c.ceil_shift.ensures c.ceil_shift-2.ensures
