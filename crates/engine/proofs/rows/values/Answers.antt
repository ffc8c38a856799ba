-- `engine::values` goes over the rectangles: each finds its own sums as they were, so its answer and its part are those of the
-- arrival, and the loop stops at the first that fails.
use Rattle.std.proofs.Common.{ℕ, ◌+◌, ◌*◌, ◌<◌, not-suc-le-zero, zero-mul, arith, ◌≡◌, sym, ap, subst, ◌∙◌, not, ◌++◌, T, length, drop}
use Rattle.arith.specs.Tab.{grid}
use Rattle.arith.proofs.Alls.{up_to}
use Rattle.arith.proofs.Bools.{no}
use Rattle.arith.proofs.Firsts.{first_at}
use Rattle.arith.proofs.Grids.{next_line}
use Rattle.arith.proofs.Passes.{grid_none}
use Rattle.arrival.specs.Arriving.{arrival}
use Rattle.arrival.specs.Arrivals.{Arrival}
use Rattle.arrival.specs.Rectangles.{updated_sum}
use Rattle.arrival.proofs.Carries.{same_good, same_updated, same_line_of, all_updated}
use Rattle.engine.specs.Rows.{Lined}
use Rattle.engine.proofs.rows.values.Invariants.{passes}
use Rattle.engine.proofs.rows.values.Goals as goal

pub loop-k-init : goal.loop-k-init
loop-k-init g c =
    let a = c.args.arriving.now in
    record {
      good = λ j h. absurd (not-suc-le-zero h);
      held = c.requires.held;
      padded = c.requires.padded;
      updated = rw zero-mul (grid_none (length a.row.now) (updated_sum (arrival a c.args.sums.now)) c.args.sums.now);
    }

pub update-requires-clause-padded : goal.update-requires-clause-padded
update-requires-clause-padded g c = c.loop-k.invariant.padded

pub returns-then-not-update-clause-stopped : goal.returns-then-not-update-clause-stopped
returns-then-not-update-clause-stopped g c =
    let a = c.args.arriving.now in
    let w : ℕ = length a.row.now in
    let v : Arrival = arrival a c.args.sums.now in
    let f : ℕ → ℕ → ℕ = updated_sum v in
    let k : ℕ = c.loop-k.k in
    let i = c.loop-k.invariant in
    let u = c.update.ensures in
    let answered : c.update.result ≡ passes v k = u.answer ∙ same_good v k f i.updated in
    let updated : c.update.new.sums ≡ grid (k + 1) w f ++ drop ((k + 1) * w) c.args.sums.now = u.sums ∙ next_line k w f c.args.sums.now i.updated (same_updated v k f i.updated) in
    record {
      first = sym (first_at a.table.now.count (passes v) k c.loop-k-test.true i.good (no answered (ap not c.if-not-update.true)));
      few = c.loop-k-test.true;
      updated = updated;
    }

pub add-requires-clause-ready : goal.add-requires-clause-ready
add-requires-clause-ready g c =
    let a = c.args.arriving.now in
    let w : ℕ = length a.row.now in
    let v : Arrival = arrival a c.args.sums.now in
    let f : ℕ → ℕ → ℕ = updated_sum v in
    let k : ℕ = c.loop-k.k in
    let i = c.loop-k.invariant in
    let u = c.update.ensures in
    let answered : c.update.result ≡ passes v k = u.answer ∙ same_good v k f i.updated in
    let good : T (passes v k) = subst T (sym (sym answered ∙ c.if-not-update.false)) tt in
    let lined : Lined v k c.update.new.line =
    record { good = good; padded = u.padded; is = λ j. u.line c.if-not-update.false j ∙ same_line_of v k f i.updated j } in
    (c.args.sums.now, (lined, i.held))

pub loop-k-preserved : goal.loop-k-preserved
loop-k-preserved g c =
    let a = c.args.arriving.now in
    let w : ℕ = length a.row.now in
    let v : Arrival = arrival a c.args.sums.now in
    let f : ℕ → ℕ → ℕ = updated_sum v in
    let k : ℕ = c.loop-k.k in
    let i = c.loop-k.invariant in
    let u = c.update.ensures in
    let answered : c.update.result ≡ passes v k = u.answer ∙ same_good v k f i.updated in
    let good : T (passes v k) = subst T (sym (sym answered ∙ c.if-not-update.false)) tt in
    let lined : Lined v k c.update.new.line =
    record { good = good; padded = u.padded; is = λ j. u.line c.if-not-update.false j ∙ same_line_of v k f i.updated j } in
    let updated : c.update.new.sums ≡ grid (k + 1) w f ++ drop ((k + 1) * w) c.args.sums.now = u.sums ∙ next_line k w f c.args.sums.now i.updated (same_updated v k f i.updated) in
    record {
      good = up_to k i.good good;
      held = c.add.ensures.added c.args.sums.now lined i.held;
      padded = c.add.ensures.padded;
      updated = updated;
    }

pub returns-clause-complete : goal.returns-clause-complete
returns-clause-complete g c =
    let a = c.args.arriving.now in
    let v : Arrival = arrival a c.args.sums.now in
    let i = c.loop-k.invariant in
    let e : c.loop-k.k ≡ a.table.now.count = let o = c.loop-k-test.false in omega arith in
    let good : (j : ℕ) → j < a.table.now.count → T (passes v j) = λ j p. i.good j (omega arith) in
    record {
      good = good;
      updated =
          i.updated ∙ ap (λ k. grid k v.width (updated_sum v) ++ drop (k * v.width) c.args.sums.now) e ∙ all_updated v a.table_good good;
    }
