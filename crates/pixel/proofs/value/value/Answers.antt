-- The weighted sums above and below zero are added up apart; their difference is the value, and its floor fits the word.
use Rattle.std.proofs.Common.{to_z-of_z, pos, ◌≡◌, refl, ap, ap₂, ◌∙◌, add-one, arith, mul-le-mul, ℕ, ◌+◌, ◌*◌, ◌^◌, ◌≤◌, ◌<◌, rules, List, get_or, FitsSigned, w16, w32}
use Rattle.std.proofs.lemmas.List.{get_or-take}
use Rattle.layout.specs.declared.Table.{Table}
use Rattle.std.proofs.Math.IntN.{sub_ℕ}
use Rattle.rule.proofs.Fitting.{pixel_fits}
use Rattle.rule.proofs.Accurate.{weighted}
use Rattle.arith.proofs.Words.{fits_widen, fits_mag}
use Rattle.arith.proofs.Ints.{diff_eq, diff_sub}
use Rattle.arith.specs.Floor.{floor_div}
use Rattle.rule.specs.Pixels.{cut_value, pixel_of}
use Rattle.limits.proofs.Granted.{granted}
use Rattle.rule.specs.Sums.{sample_at}
use Rattle.layout.specs.Contents.{rect, no_rect}
use Rattle.arith.proofs.Sums.{sum-suc}
use Rattle.arith.specs.Sum.{sum}
use Rattle.pixel.proofs.value.value.Invariants.{sums, highs, lows}
use Rattle.pixel.proofs.value.value.Goals as goal

product : (a b : ℕ) → a ≤ 32768 → b < 2 ^ 22 → a * b ≤ 2 ^ 37
product a b h l = let m : b ≤ 2 ^ 22 = omega arith in mul-le-mul h m

-- the value, when every rectangle's term is in
total : (t : Table) (width : ℕ) (xs : List ℕ) (r c k above below : ℕ) → k ≡ t.count → above ≡ sum k (highs t width xs r c) → below ≡ sum k (lows t width xs r c)
    → sub_ℕ above below ≡ cut_value t (sample_at width xs) (pos r) (pos c)
unfolding cut_value
total t width xs r c k above below e a b =
    let p = a ∙ ap (λ n. sum n (highs t width xs r c)) e in
    let q = b ∙ ap (λ n. sum n (lows t width xs r c)) e in
    diff_eq (diff_sub above below) (weighted t (sums t width xs r c)) (omega arith)

pub loop-d-init : goal.loop-d-init
unfolding sum
loop-d-init c = record { above = refl; below = refl; above_small = search rules; below_small = search rules }

pub scaled_sum-s-requires-clause-b_bound : goal.scaled_sum-s-requires-clause-b_bound
scaled_sum-s-requires-clause-b_bound c =
    let t = c.args.t.now in
    let i = c.loop-d.d-index in
    let g = granted t c.requires.t_value.0 in
    let inside : i < t.count = (let a = c.loop-d-test.true in let b = c.rects-d-items.ensures.fits in omega arith) in
    let slot = ap (λ rs. get_or rs i no_rect) c.rects-d-items.ensures.items ∙ get_or-take t.count t.rects i no_rect inside in
    let q = g.q1_less in
    let m = g.bits_most in
    let b = g.bounds i inside in
    rw slot (m, omega arith, g.q2_most, g.q3_most, b.rows_most, b.cols_most)

pub loop-d-preserved : goal.loop-d-preserved
loop-d-preserved c =
    let t = c.args.t.now in
    let i = c.loop-d.d-index in
    let h = c.loop-d.invariant in
    let g = granted t c.requires.t_value.0 in
    let inside : i < t.count = (let a = c.loop-d-test.true in let b = c.rects-d-items.ensures.fits in omega arith) in
    let slot = ap (λ rs. get_or rs i no_rect) c.rects-d-items.ensures.items ∙ get_or-take t.count t.rects i no_rect inside in
    let f : FitsSigned w16 (rect t i).weight = record { sfits = fits_mag 16 _ (g.weight i inside) } in
    let e = rw (slot, to_z-of_z f) at c.sign_parts-p.ensures.above_value in
    let v = rw slot at c.scaled_sum-s.ensures.value in
    let u : c.from.result ≤ 32768 = omega (arith, c.from.ensures, c.sign_parts-p.ensures.above_bound.0) in
    let w : c.from-in-loop-d.result ≤ 32768 = omega (arith, c.from-in-loop-d.ensures, c.sign_parts-p.ensures.above_bound.1) in
    let x = product _ _ u c.scaled_sum-s.ensures.upper_bound in
    let y = product _ _ w c.scaled_sum-s.ensures.upper_bound in
    let j = h.above_small in
    let k = h.below_small in
    record {
      above = rw (add-one, sum-suc) (ap₂ ◌+◌ h.above (ap₂ ◌*◌ (c.from.ensures ∙ e.0) v));
      below = rw (add-one, sum-suc) (ap₂ ◌+◌ h.below (ap₂ ◌*◌ (c.from-in-loop-d.ensures ∙ e.1) v));
      above_small = search (rules, x, j);
      below_small = search (rules, y, k);
    }

pub round_pixel-requires-clause-above_bound : goal.round_pixel-requires-clause-above_bound
round_pixel-requires-clause-above_bound c =
    let n = (granted c.args.t.now c.requires.t_value.0).few in
    let e : c.loop-d.d-index ≤ 16 = (let a = c.rects-d-items.ensures.fits in let b = c.loop-d.auto.d-index-end in omega arith) in
    let h = c.loop-d.invariant in
    let x = h.above_small in
    let y = h.below_small in
    (omega arith, omega arith)

pub round_pixel-requires-clause-t : goal.round_pixel-requires-clause-t
unfolding pixel_of
round_pixel-requires-clause-t c =
    let a = c.args in
    let t = a.t.now in
    let g = granted t c.requires.t_value.0 in
    let n = g.few in
    let e : c.loop-d.d-index ≡ t.count = (let p = c.rects-d-items.ensures.fits in let q = c.loop-d.auto.d-index-end in let s = c.loop-d-test.false in omega arith) in
    let x = sample_at a.scan.now.width a.scan.now.samples.now in
    rw (total t a.scan.now.width a.scan.now.samples.now a.r a.c c.loop-d.d-index _ _ e c.loop-d.invariant.above c.loop-d.invariant.below)
    (fits_widen t.w 32 _ g.word_most (pixel_fits t c.requires.t_value.0 {x = x} c.requires.t_value.1 (pos a.r) (pos a.c)))

pub returns : goal.returns
unfolding pixel_of
returns c =
    let a = c.args in
    let t = a.t.now in
    let n = (granted t c.requires.t_value.0).few in
    let e : c.loop-d.d-index ≡ t.count = (let p = c.rects-d-items.ensures.fits in let q = c.loop-d.auto.d-index-end in let s = c.loop-d-test.false in omega arith) in
    to_z-of_z {w = w32} (record { sfits = c.round_pixel.type_inv })
    ∙ c.round_pixel.ensures
    ∙ ap (λ v. floor_div v t.t) (total t a.scan.now.width a.scan.now.samples.now a.r a.c c.loop-d.d-index _ _ e c.loop-d.invariant.above c.loop-d.invariant.below)
