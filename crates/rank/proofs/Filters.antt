-- What the machine knows of a window beside its stores.
-- Assumes nothing.
use Rattle.std.proofs.Common.{◌≡◌, refl, sym, ◌∙◌, ℕ, Bool, true, false, cond, ◌&&◌, leb, length, arith, List, ℤ}
use Rattle.limits.specs.Limits.{bits_good, rect_good}
use Rattle.layout.specs.Answers.{Left, left}
use Rattle.layout.proofs.Questions.{first_map}
use Rattle.histograms.specs.Arrivals.{Fits, Leaves, arrive_of, arrival_asks}
use Rattle.machine.specs.declared.Arrival.{Arrival}
use Rattle.machine.specs.Rules.{good, Fits as RowFits, taken_of}
use Rattle.rank.specs.declared.ranking.Ranking.{Ranking}
use Rattle.rank.specs.Calls.{rect_of, rank_good, window_good}
use Rattle.rank.specs.Filters.{with_stores, arrives, window_rules}
use Rattle.rank.proofs.States.{Windowed, windowed, bits_most, rank_some, stores_bounds}

four : (a b c d : Bool) → cond a (cond b (cond c (cond d true false) false) false) false ≡ (a && (b && (c && d)))
four true true true true = refl
four true true true false = refl
four true true false d = refl
four true false c d = refl
four false b c d = refl

-- its numbers are good where its questions are answered yes
pub good_window : (f : Ranking) → good window_rules f ≡ window_good f.window f.b f.rank
unfolding window_good
good_window f = four (bits_good f.b) (leb f.b 8) (rect_good (rect_of f.window)) (rank_good f.window f.rank)

pub accepts : (f : Ranking) → good window_rules f ≡ true → Windowed f.window f.b f.rank
accepts f e = windowed f.window f.b f.rank (sym (good_window f) ∙ e)

-- what arrives fits
pub row_fits : {f : Ranking} {a : Arrival} {row : _} {out : ℕ} → RowFits window_rules f a (length row) out → Fits (arrives f a row) (length f.windows.now) out
row_fits {f} {a} h =
    let b = stores_bounds a.width (length f.samples.now) (length f.counts.now) (length f.windows.now) h.stores in
    let w = accepts f h.numbers in
    record {
      rect = w.rect;
      bits_most = bits_most w;
      ranked = rank_some w;
      width_most = h.width_most;
      number_most = h.number_most;
      long = h.long;
      samples_long = b.0;
      counts_long = let c = b.1 in omega arith;
      windows_long = b.2;
      lent = h.lent;
    }

-- what an arrival leaves, with the stores in their place
abbrev pub stored_leaves : Ranking → Leaves → Left Ranking
stored_leaves f x = left x.said (with_stores f x.samples x.counts x.windows) x.out

pub arrived : (f : Ranking) (a : Arrival) (row : List ℕ) (out : List ℤ)
    → stored_leaves f (arrive_of (arrives f a row) f.windows.now out) ≡ taken_of window_rules f a row out
unfolding arrive_of
arrived f a row out = first_map (stored_leaves f) (arrival_asks (arrives f a row)) _ _
