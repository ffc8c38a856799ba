-- How far a pixel may be from the full one, and tables for which the figures are reached.
-- Assumes nothing.
use Rattle.std.proofs.Common.{ℕ, ◌%◌, ◌^◌, mod-lt, arith, ◌≡◌, refl, ap, ap₂, ◌∙◌, true, List, [], ◌∷◌, eqb, ℤ, pos, neg_ℤ, ◌-ℤ◌, ◌*ℤ◌}
use Rattle.std.proofs.Math.Nat.{zero-div}
use Rattle.arith.specs.Floor.{floor_div}
use Rattle.arith.specs.Part.{pos_part, neg_part}
use Rattle.arith.proofs.Ints.{diff_pos, diff_neg, diff_parts, diff_minus, diff_eq, sum_ℤ_cong}
use Rattle.layout.specs.declared.Rect.{Rect}
use Rattle.layout.specs.declared.Table.{Table}
use Rattle.layout.specs.Answers.{refused, accepted}
use Rattle.layout.specs.Contents.{contents, rect}
use Rattle.layout.proofs.Questions.{first_yes, all_accepted}
use Rattle.limits.specs.Limits.{acceptable}
use Rattle.limits.proofs.Granted.{granted}
use Rattle.table.specs.Format.{Bytes, loaded, load_of}
use Rattle.rule.specs.Accuracy.{NothingDropped, loss_under}
use Rattle.rule.specs.Pixels.{full_value, cut_value, pixel_of}
use Rattle.rule.specs.Questions.{width_good, height_good, place_good}
use Rattle.rule.specs.Sums.{Image, sample_at}
use Rattle.rule.proofs.Accurate.{rect_accuracy, accuracy}
use Rattle.pixel.specs.Call.{pixel_asks, pixel_answer}
use Rattle.figures.specs.Measured.{pixels_above, pixels_below}
use Rattle.figures.specs.Off.{full_pixel, pixel_off, OffWithin, AnswerOff, low_scan, Reaches}
use Rattle.figures.proofs.Ceilings.{floors_above, floors_below, floor_negative, floor_whole}
use Rattle.figures.proofs.Low.{low_long, low_good, low_cut, low_full}

-- for every table, image and place, the full pixel less the pixel lies between the two figures
pub off_within : (t : Table) (x : Image) (r c : ℤ) → OffWithin t x r c
unfolding pixel_off full_pixel pixel_of pixels_above pixels_below
off_within t x r c =
    let a = accuracy t x r c in
    record {
      low = floors_below (full_value t x r c) (cut_value t x r c) t.t (loss_under neg_part t) a.low;
      high = floors_above (full_value t x r c) (cut_value t x r c) t.t (loss_under pos_part t) a.high;
    }

-- For every table that loading accepts, every scan that the one-pixel call accepts with it, and every place in that scan: the full pixel
-- less the pixel that the call answers is at least -⌈N / 2^t⌉ and at most ⌈P / 2^t⌉, where P is the sum of the loss figures under positive
-- weights, each times its weight, and N that under negative ones.
pub pixel_off_bounded :
    (bs : List ℕ) (t : Table) → Bytes bs → load_of bs ≡ loaded (contents t)
    → (l : ℕ) (xs : List ℕ) (r c : ℕ) → (pixel_answer t l xs r c).kind ≡ 1
    → AnswerOff t l xs r c
unfolding pixel_answer
pixel_off_bounded bs t byte e l xs r c a =
    record {
      answer = (first_yes (λ s. eqb s.kind 0) (pixel_asks t l xs r c) refused _ (λ n p. refl) (ap (λ k. eqb k 0) a)).1;
      within = off_within t (sample_at l xs) (pos r) (pos c);
    }

-- a table without drops has full pixels
pub full_without_drops : (t : Table) (x : Image) (r c : ℤ) → t.q1 ≡ 0 → t.q2 ≡ 0 → t.q3 ≡ 0 → full_pixel t x r c ≡ pixel_of t x r c
unfolding full_pixel pixel_of full_value cut_value
full_without_drops t x r c e1 e2 e3 =
    ap (λ v. floor_div v t.t)
    (sum_ℤ_cong t.count (λ k h. ap (λ s. (rect t k).weight *ℤ pos s) ((rect_accuracy t x (rect t k) r c).exact.1 (nothing (rect t k)))))
  where
    none : (q n : ℕ) → q ≡ 0 → n % 2 ^ q ≡ 0
    none q n e = rw e (let m = mod-lt n {m = 1} (omega arith) in omega arith)

    nothing : (d : Rect) → NothingDropped t x d r c
    nothing d = record { samples = λ i j h l. none t.q1 _ e1; columns = λ j h. none t.q2 _ e2; window = none t.q3 _ e3 }

-- ---- the figures are reached

-- the call accepts the scan
low_accepted :
    (t : Table) → acceptable t ≡ true
    → pixel_answer t 31 (low_scan t) 15 15 ≡ accepted (pixel_of t (sample_at 31 (low_scan t)) (pos 15) (pos 15) ∷ [])
unfolding pixel_answer pixel_asks width_good height_good place_good
low_accepted t e =
    let g = granted t e in
    let n = low_long t g in
    all_accepted (pixel_asks t 31 (low_scan t) 15 15) refused _
    (e, (refl, (ap (height_good 31) n, (ap (λ n. place_good 31 n 15 15) n, (low_good t g, tt)))))

less_none : (z : ℤ) → z -ℤ pos 0 ≡ z
less_none z = diff_eq (diff_minus (diff_parts z) (diff_pos 0)) (diff_parts z) (omega arith)

-- the pixel there is 0, and the full one is the floor of P - N
low_off : (t : Table) → acceptable t ≡ true → (v : ℤ) → full_value t (sample_at 31 (low_scan t)) (pos 15) (pos 15) ≡ v
    → pixel_off t (sample_at 31 (low_scan t)) (pos 15) (pos 15) ≡ floor_div v t.t
unfolding pixel_off full_pixel pixel_of floor_div
low_off t e v f =
    let q = ap (λ z. floor_div z t.t) (low_cut t (granted t e)) ∙ ap pos (zero-div (2 ^ t.t)) in
    ap₂ (λ y z. floor_div y t.t -ℤ z) f q ∙ less_none (floor_div v t.t)

-- `attained`: of an accepted table that drops bits of the samples only, and in which no loss stands under a negative weight, the upper
-- figure is reached where 2^t divides P, as it does where t is 0
pub attained_above :
    (t : Table) → acceptable t ≡ true → t.q2 ≡ 0 → t.q3 ≡ 0 → loss_under neg_part t ≡ 0 → loss_under pos_part t % 2 ^ t.t ≡ 0
    → Reaches t (pos (pixels_above t))
unfolding pixels_above
attained_above t e e2 e3 n d =
    let v = diff_eq (low_full t (granted t e) e2 e3) (diff_pos (loss_under pos_part t)) (omega arith) in
    record { answer = low_accepted t e; reached = low_off t e _ v ∙ floor_whole (loss_under pos_part t) t.t d }

-- and where none stands under a positive one, the lower figure always is
pub attained_below : (t : Table) → acceptable t ≡ true → t.q2 ≡ 0 → t.q3 ≡ 0 → loss_under pos_part t ≡ 0 → Reaches t (neg_ℤ (pos (pixels_below t)))
unfolding pixels_below
attained_below t e e2 e3 n =
    let v = diff_eq (low_full t (granted t e) e2 e3) (diff_neg (loss_under neg_part t)) (omega arith) in
    record { answer = low_accepted t e; reached = low_off t e _ v ∙ floor_negative (loss_under neg_part t) t.t }
