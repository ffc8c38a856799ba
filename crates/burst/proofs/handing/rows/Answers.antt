-- The questions before the first row, then the rows one by one.
use Rattle.std.proofs.Common.{◌≡◌, sym, ap, ◌∙◌, refl, length, ℕ, List, ℤ}
use Rattle.layout.specs.Answers.{Said, said, left}
use Rattle.layout.proofs.Questions.{first_verdict}
use Rattle.scan.specs.declared.Scan.{Scan}
use Rattle.scan.specs.Calls.{world}
use Rattle.burst.specs.Bursts.{with_counts, burst_left, burst_asks, burst_of}
use Rattle.burst.proofs.Entries.{entered, rows_in, rows_out}
use Rattle.burst.proofs.handing.rows.Goals as goal

-- a burst that takes no row
same_left : {v v' : Said} {taken taken' filtered filtered' : ℕ} {s s' : Scan} {samples sums : List ℕ} {out : List ℤ}
    → v ≡ v' → taken ≡ taken' → filtered ≡ filtered' → s ≡ s'
    → left (with_counts v taken filtered) (world s samples sums) out ≡ left (with_counts v' taken' filtered') (world s' samples sums) out
same_left e f g h = rw (e, f, g, h) refl

pub nonzero_div-rows : goal.nonzero_div-rows
nonzero_div-rows c = (entered c.args.s (length c.args.rows.now) (length c.args.out.now) (sym c.ask-verdict.ensures ∙ ap said c.in-Ok.is)).width_least

pub each-requires : goal.each-requires
each-requires c =
    let h = entered c.args.s (length c.args.rows.now) (length c.args.out.now) (sym c.ask-verdict.ensures ∙ ap said c.in-Ok.is) in
    (rows_in c.args.s (length c.args.rows.now), rows_out _ _ _ h, h.rows_most, h.width_most)

pub returns-in-Err : goal.returns-in-Err
unfolding burst_of
returns-in-Err c =
    let a = c.args in
    let e = c.begun.ensures in
    rw (first_verdict (burst_asks a.s (length a.rows.now) (length a.out.now)), sym c.ask-verdict.ensures ∙ ap said c.in-Err.is)
    (same_left (ap said (e.0 ∙ c.in-Err.is)) e.1 e.2 e.3)

pub returns-in-Ok : goal.returns-in-Ok
unfolding burst_of
returns-in-Ok c =
    let a = c.args in
    rw (first_verdict (burst_asks a.s (length a.rows.now) (length a.out.now)), sym c.ask-verdict.ensures ∙ ap said c.in-Ok.is) (ap burst_left c.each.ensures)
