-- A scan that is taken is within the limits.
-- Assumes nothing.
use Rattle.std.proofs.Common.{ℕ, ◌≤◌, arith, mul-le-mul, ◌≡◌, refl, sym, subst, Bool, true, false, cond, leb, eqb, leb→le, T}
use Rattle.std.specs.Prelude.{Result, Ok, Err}
use Rattle.rule.specs.Questions.{width_good}
use Rattle.rule.proofs.Asked.{width_bounds}
use Rattle.pgm.specs.declared.Opening.{Opening}
use Rattle.pgm.specs.declared.NoHeader.{NoHeader}
use Rattle.pgm.specs.declared.NoHeader.TheVariants.{More, Foreign, Bad, Large, Unended}
use Rattle.pgm.specs.Raster.{sample_bytes}
use Rattle.filtering.specs.declared.Job.{Job}
use Rattle.filtering.specs.declared.Fault.{Fault}
use Rattle.filtering.specs.declared.Fault.TheVariants.{Empty, CutHeader, NoMaxval, Maxval, Bits, Width}
use Rattle.filtering.specs.Judging.{Accepts, job_of, maxval_fits, whole_of, judged_of}

one_or_two : (maxval : ℕ) → (1 ≤ sample_bytes maxval) × (sample_bytes maxval ≤ 2)
unfolding sample_bytes
one_or_two maxval = go (leb maxval 255)
  where
    go : (t : Bool) → (1 ≤ cond t 1 2) × (cond t 1 2 ≤ 2)
    go true = (omega arith, omega arith)
    go false = (omega arith, omega arith)

within : (width height maxval : ℕ) → width_good width ≡ true → leb maxval 4095 ≡ true → Accepts (job_of width height maxval)
within width height maxval w m =
    let b = width_bounds w in
    let s = one_or_two maxval in
    let lo = mul-le-mul {n₁ = 1} {m₁ = 1} {n₂ = width} {m₂ = sample_bytes maxval} b.0 s.0 in
    let hi = mul-le-mul {n₁ = width} {m₁ = sample_bytes maxval} {n₂ = 1024} {m₂ = 2} b.1 s.1 in
    record { low = b.0; high = b.1; few = leb→le _ _ (subst T (sym m) tt); row = refl; some = omega arith; most = omega arith }

-- of two answers by a test, the one that is accepted
none : {j : Job} {f : Fault} {A : Type 0} → Err f ≡ Ok j → A
none e = absurd cc

whole_accepts : (b width height maxval : ℕ) (j : Job) → whole_of b width height maxval ≡ Ok j → Accepts j
unfolding whole_of
whole_accepts b width height maxval j e =
    go (eqb maxval 0) (leb maxval 4095) (maxval_fits maxval b) (width_good width) NoMaxval (Width width) (Bits maxval b) (Maxval maxval) refl refl e
  where
    go : (z m f w : Bool) (x y u v : Fault) → m ≡ leb maxval 4095 → w ≡ width_good width
        → cond z (Err x) (cond m (cond f (cond w (Ok (job_of width height maxval)) (Err y)) (Err u)) (Err v)) ≡ Ok j → Accepts j
    go true m f w x y u v p q d = none d
    go false false f w x y u v p q d = none d
    go false true false w x y u v p q d = none d
    go false true true false x y u v p q d = none d
    go false true true true x y u v p q d = let i : job_of width height maxval ≡ j = cc in subst Accepts i (within width height maxval (sym q) (sym p))

pub accepted_job : (b : ℕ) (h : Result Opening NoHeader) (n : ℕ) (j : Job) → judged_of b h n ≡ Ok j → Accepts j
unfolding judged_of
accepted_job b (Ok opening) n j e = whole_accepts b opening.width opening.height opening.maxval j e
accepted_job b (Err More) n j e = go (eqb n 0) Empty CutHeader e
  where
    go : (t : Bool) (x y : Fault) → cond t (Err x) (Err y) ≡ Ok j → Accepts j
    go true x y d = none d
    go false x y d = none d
accepted_job b (Err Foreign) n j e = none e
accepted_job b (Err (Bad entry at)) n j e = none e
accepted_job b (Err (Unended at)) n j e = none e
accepted_job b (Err (Large entry at)) n j e = none e
