-- What the answers to the questions on a window, on a state and on a start tell.
-- Assumes nothing.
use Prim.Native.Nat.{ℕ, ◌*◌, ◌≤◌}
use mathlib.Core.Path.{◌≡◌, sym, subst}
use mathlib.Core.Bool.{true, cond, ◌&&◌}
use lib.Dec.{T, leb, eqb, leb→le}
use mir.Facts.{and_yes}
use borrow.Author.Tests.{leb-true}
use Rattle.arith.proofs.Bools.{true_of}
use Rattle.limits.specs.Limits.{bits_good, rect_good}
use Rattle.rule.specs.Questions.{width_good}
use Rattle.rank.specs.declared.Window.{Window}
use Rattle.rank.specs.declared.RankScan.{RankScan}
use Rattle.rank.specs.Calls.{rect_of, rank_delay, rank_good, window_good, agrees, stores_good}

-- a window that questions 3, 23, 8 and 22 accept
pub record Windowed (w : Window) (b rank : ℕ) : Type 0 where
  pub bits : bits_good b ≡ true
  pub few : leb b 8 ≡ true
  pub rect : rect_good (rect_of w) ≡ true
  pub ranks : rank_good w rank ≡ true

pub windowed : (w : Window) (b rank : ℕ) → window_good w b rank ≡ true → Windowed w b rank
unfolding window_good
windowed w b rank e =
    let h = and_yes (bits_good b) (leb b 8 && (rect_good (rect_of w) && rank_good w rank)) (subst T (sym e) tt) in
    let i = and_yes (leb b 8) (rect_good (rect_of w) && rank_good w rank) h.1 in
    let j = and_yes (rect_good (rect_of w)) (rank_good w rank) i.1 in
    record { bits = true_of _ h.0; few = true_of _ i.0; rect = true_of _ j.0; ranks = true_of _ j.1 }

-- it has at most 8 bits, and R is at least 1
pub bits_most : {w : Window} {b rank : ℕ} → Windowed w b rank → b ≤ 8
bits_most {b = b} h = leb-true b 8 h.few

pub rank_some : {w : Window} {b rank : ℕ} → Windowed w b rank → 1 ≤ rank
unfolding rank_good
rank_some {w = w} {rank = rank} h = leb→le 1 rank (and_yes (leb 1 rank) _ (subst T (sym h.ranks) tt)).0

-- a state whose numbers agree
pub record Agreed (s : RankScan) : Type 0 where
  pub window : Windowed s.window s.b s.rank
  pub width : width_good s.width ≡ true
  pub rows : s.rows ≤ 65535
  pub steps : s.steps ≤ rank_delay s
  pub unstepped : T (cond s.closed true (eqb s.steps 0))

pub agreed : (s : RankScan) → agrees s ≡ true → Agreed s
unfolding agrees
agreed s e =
    let a = and_yes (window_good s.window s.b s.rank) _ (subst T (sym e) tt) in
    let b = and_yes (width_good s.width) _ a.1 in
    let c = and_yes (leb s.rows 65535) _ b.1 in
    let d = and_yes (leb s.steps (rank_delay s)) _ c.1 in
    record {
      window = windowed s.window s.b s.rank (true_of _ a.0);
      width = true_of _ b.0;
      rows = leb→le s.rows 65535 c.0;
      steps = leb→le s.steps (rank_delay s) d.0;
      unstepped = d.1;
    }

-- stores that are long enough
pub stores_bounds : (l samples counts windows : ℕ) → stores_good l samples counts windows ≡ true → (32 * l ≤ samples) × (256 * l ≤ counts) × (256 ≤ windows)
unfolding stores_good
stores_bounds l samples counts windows e =
    let h = and_yes (leb (32 * l) samples) (leb (256 * l) counts && leb 256 windows) (subst T (sym e) tt) in
    let i = and_yes (leb (256 * l) counts) (leb 256 windows) h.1 in
    (leb→le (32 * l) samples h.0, leb→le (256 * l) counts i.0, leb→le 256 windows i.1)
