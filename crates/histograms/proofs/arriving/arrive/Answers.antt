-- `histograms::arrive` is refused where a column is not good, with nothing written; else the counts are the new ones, the ring holds the row,
-- and the row that is due is that of the new counts.
-- Assumes nothing.
use Prim.Native.Nat.{ℕ, ◌^◌, ◌≤◌, ◌<◌}
use mathlib.Core.Path.{◌≡◌, refl, sym, ap, ◌∙◌, subst}
use mathlib.Core.Bool.{Bool, true, false, not}
use mathlib.Core.List.{List, ◌++◌}
use lib.Dec.{T}
use lib.IntN.{ℤ, pos}
use lib.ListN.{length, get_or, drop}
use borrow.Author.Tests.{lt-ltb, le-ltb}
use Rattle.arith.specs.All.{all}
use Rattle.arith.specs.Tab.{tab, zeroed}
use Rattle.arith.proofs.Passes.{pass_length, pass_done, pass_again}
use Rattle.std.specs.Prelude.{Result, Ok, Err}
use Rattle.std.proofs.Common.{is_ok, rules}
use Rattle.layout.specs.declared.asking.Question.TheVariants.{Carried}
use Rattle.layout.specs.declared.asking.Refusal.{Refusal}
use Rattle.layout.specs.Answers.{Said, said}
use Rattle.layout.specs.Questions.{asked, no}
use Rattle.limits.proofs.Asked.{asked_yes}
use Rattle.levels.specs.Levels.{ranked}
use Rattle.histograms.specs.Windows.{window_count}
use Rattle.histograms.specs.Arrivals.{Counting, counting, delay_by, good_at, arrival_asks, samples_after, shade_at, output_after, leaves, arrive_of}
use Rattle.histograms.proofs.Zero.{zeros_all}
use Rattle.histograms.proofs.Counts.{counts_small}
use Rattle.histograms.proofs.arriving.arrive.Goals as goal

same-leaves : {v : Said} {samples samples' counts counts' windows windows' : List ℕ} {out out' : List ℤ} → samples ≡ samples' → counts ≡ counts' → windows ≡ windows' → out ≡ out'
    → leaves v samples counts windows out ≡ leaves v samples' counts' windows' out'
same-leaves e f g h = rw (e, f, g, h) refl

pub count_row-good-requires : goal.count_row-good-requires
count_row-good-requires c = let p = c.requires in
    record {
      rect = p.rect;
      bits_most = p.bits_most;
      width_most = p.width_most;
      number_most = p.number_most;
      long = p.long;
      samples_long = p.samples_long;
      counts_long = p.counts_long;
      dark = zeros_all 1024;
    }

abbrev refusal_of : Result (Unit {0}) Refusal → Refusal
refusal_of (Ok x) = no Carried 0
refusal_of (Err r) = r

-- a call that asks one question and gets a no
asked_no : (b : Bool) {r : Refusal} → asked Carried b ≡ Err r → (b ≡ false) × (r ≡ no Carried 0)
asked_no true e = absurd (subst T (ap is_ok e) tt)
asked_no false e = (refl, sym (ap refusal_of e))

pub returns-in_err-unless : goal.returns-in_err-unless
unfolding arrive_of arrival_asks
returns-in_err-unless c =
    let arrived : Counting = let z = c.args in counting z.a z.row.now z.samples.now z.counts.now in
    let v = arrived in
    let n = asked_no _ (sym c.unless.ensures ∙ c.in_err-unless.was) in
    let e : all v.what.width (good_at v) ≡ false = sym c.count_row-good.ensures.answer ∙ n.0 in
    let k = c.count_row-good.ensures.kept (subst (λ b. T (not b)) (sym n.0) tt) in
    let h : leaves (said (Err c.in_err-unless.field-0.0)) c.args.samples.now c.count_row-good.new.counts c.args.windows.now c.args.out.now ≡ arrive_of v c.args.windows.now c.args.out.now = rw (n.1, e, k) refl in
    search (rules, h)

pub show_row-requires : goal.show_row-requires
show_row-requires c =
    let arrived : Counting = let z = c.args in counting z.a z.row.now z.samples.now z.counts.now in
    let zeroed-once : c.clear.new.windows ≡ zeroed 256 c.args.windows.now = c.clear.ensures in
    let good : T c.count_row-good.result = subst T (sym (asked_yes _ _ _ (sym c.unless.ensures ∙ c.in_ok-unless.was))) tt in
    let p = c.requires in
    let v = arrived in
    let q = c.count_row-good.ensures in
    let w = zeroed-once in
    record {
      rect = p.rect;
      bits_most = p.bits_most;
      ranked = p.ranked;
      width_most = p.width_most;
      counts_long = rw q.long p.counts_long;
      dark = zeros_all 1024;
      small = λ j u h i. rw (q.moved (good)) (counts_small v p.rect p.bits_most (subst T q.answer (good)) j u h i);
      windows_long = rw (ap length w ∙ pass_length 256 (λ k. 0) c.args.windows.now p.windows_long) p.windows_long;
      none = λ u h. ap (λ xs. get_or xs u 0) w ∙ pass_done 256 (λ k. 0) c.args.windows.now u 0 h;
      lent = p.lent;
    }

pub returns-then-delay-a : goal.returns-then-delay-a
unfolding arrive_of arrival_asks output_after shade_at samples_after
returns-then-delay-a c =
    let good : T c.count_row-good.result = subst T (sym (asked_yes _ _ _ (sym c.unless.ensures ∙ c.in_ok-unless.was))) tt in
    let arrived : Counting = let z = c.args in counting z.a z.row.now z.samples.now z.counts.now in
    let accepted : all (arrived).what.width (good_at (arrived)) ≡ true = sym c.count_row-good.ensures.answer ∙ asked_yes _ _ _ (sym c.unless.ensures ∙ c.in_ok-unless.was) in
    let kept : c.keep.new.samples ≡ samples_after (arrived) = rw c.requires.long at c.keep.ensures in
    let zeroed-once : c.clear.new.windows ≡ zeroed 256 c.args.windows.now = c.clear.ensures in
    let a = c.args.a in
    let q = c.count_row-good.ensures.moved (good) in
    let d : delay_by a.rect ≤ a.number = rw c.delay.ensures at c.if-delay-a.true in
    rw (accepted, le-ltb a.number (delay_by a.rect) d)
    (same-leaves (kept) q (c.show_row.ensures.zero ∙ pass_again 256 (λ c. 0) (λ c. 0) c.args.windows.now (zeroed-once))
    (c.show_row.ensures.row ∙ ap (λ cs. tab a.width (λ i. ranked (2 ^ a.b) a.rank (window_count cs a.width a.rect (pos i))) ++ drop a.width c.args.out.now) q))

pub returns-else-delay-a : goal.returns-else-delay-a
unfolding arrive_of arrival_asks output_after samples_after
returns-else-delay-a c =
    let arrived : Counting = let z = c.args in counting z.a z.row.now z.samples.now z.counts.now in
    let accepted : all (arrived).what.width (good_at (arrived)) ≡ true = sym c.count_row-good.ensures.answer ∙ asked_yes _ _ _ (sym c.unless.ensures ∙ c.in_ok-unless.was) in
    let kept : c.keep.new.samples ≡ samples_after (arrived) = rw c.requires.long at c.keep.ensures in
    let good : T c.count_row-good.result = subst T (sym (asked_yes _ _ _ (sym c.unless.ensures ∙ c.in_ok-unless.was))) tt in
    let zeroed-once : c.clear.new.windows ≡ zeroed 256 c.args.windows.now = c.clear.ensures in
    let a = c.args.a in
    let d : a.number < delay_by a.rect = rw c.delay.ensures at c.if-delay-a.false in
    rw (accepted, lt-ltb a.number (delay_by a.rect) d) (same-leaves (kept) (c.count_row-good.ensures.moved (good)) (zeroed-once) refl)
