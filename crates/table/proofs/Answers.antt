-- What writing answers is known by what it says, and what loading answers by what it says and the table that it hands out.
-- Assumes nothing.
use Rattle.std.proofs.Common.{◌≡◌, ℕ, [], ◌∷◌, List, ℤ, pos, Result, Ok, Err, ap, arith}
use Rattle.layout.specs.declared.Table.{Table}
use Rattle.layout.specs.declared.asking.Refusal.{Refusal}
use Rattle.layout.proofs.Answers.{result_injective, said_injective}
use Rattle.table.specs.Format.{given}
use Rattle.table.specs.Writing.{written_said}

same_length : (n m : ℕ) → ◌≡◌ {A = List ℤ} (pos n ∷ []) (pos m ∷ []) → n ≡ m
same_length n m e = cc

pub written_injective : (w v : Result ℕ Refusal) → written_said w ≡ written_said v → w ≡ v
written_injective w v e = result_injective (λ n. pos n ∷ []) same_length w v e

pub given_injective : (v w : Result Table Refusal) → given v ≡ given w → v ≡ w
given_injective (Ok t) (Ok u) e = ap Ok (ap (λ h. h.table) e)
given_injective (Ok t) (Err r) e = absurd (let z = ap (λ h. h.said.kind) e in omega arith)
given_injective (Err r) (Ok t) e = absurd (let z = ap (λ h. h.said.kind) e in omega arith)
given_injective (Err r) (Err s) e = let f = said_injective (Err r) (Err s) (ap (λ h. h.said) e) in cc
