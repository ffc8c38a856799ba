-- `histograms::show_row` writes the row of a window of 2^b levels and sets the window counts to zero again.
-- Assumes nothing.
use Prim.Native.Nat.{◌≤◌}
use native.Mathlib.Omega.{arith}
use mathlib.Core.Path.{◌≡◌, sym, ap, ◌∙◌, subst}
use lib.ListN.{length}
use Rattle.histograms.specs.Spans.{span_of, BandFits, Holds, Written}
use Rattle.histograms.proofs.Rows.{span, band_fits, holds_none, shown}
use Rattle.histograms.proofs.arriving.show_row.Goals as goal

pub write_row-requires : goal.write_row-requires
write_row-requires c =
    let span-is : c.span_of-span.result ≡ span c.args.a c.requires = let p = c.power-levels.ensures.value (let h = c.requires.bits_most in omega arith) in
    c.span_of-span.ensures ∙ ap (λ n. span_of c.args.a.rect c.args.a.width n c.args.a.rank) p in
    subst
    (λ s. BandFits s c.args.counts.now c.args.zeros.now × Holds s c.args.counts.now 0 c.args.windows.now × (s.width ≤ length c.args.out.now))
    (sym (span-is)) (band_fits c.args.a c.requires, holds_none c.args.a c.requires, c.requires.lent)

pub clear-requires : goal.clear-requires
clear-requires c = rw c.write_row.auto.window c.requires.windows_long

pub returns : goal.returns
returns c =
    let span-is : c.span_of-span.result ≡ span c.args.a c.requires = let p = c.power-levels.ensures.value (let h = c.requires.bits_most in omega arith) in
    c.span_of-span.ensures ∙ ap (λ n. span_of c.args.a.rect c.args.a.width n c.args.a.rank) p in
    rw c.clear.ensures (shown c.args.a c.requires c.args.out.now
    (subst (λ s. Written s c.args.counts.now c.args.out.now c.args.windows.now c.write_row.new.out c.write_row.new.window) (span-is) c.write_row.ensures))
