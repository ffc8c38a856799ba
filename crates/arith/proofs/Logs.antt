-- The rule of the table of ⟨log2 n⟩: one test that is computed over all entries, and the rule at each.
-- Assumes nothing.
use Rattle.std.proofs.Common.{ℕ, zero, suc, ◌-◌, ◌^◌, ◌≤◌, ◌<◌, lt_irrefl, arith, Bool, ◌&&◌, ◌≡◌, refl, T, leb, ltb, eqb, leb→le, ltb→lt, eqb→eq, get_or, length, pow_pos}
use Rattle.std.proofs.Math.ListN.{get_or-eq_default}
use Rattle.std.proofs.Math.Facts.{and_yes}
use Rattle.arith.specs.Log.{logs, log2up, LogRule}
use Rattle.arith.proofs.Every.{every, at}

-- the test of the entry e at place i, the entry for i + 1
right : ℕ → ℕ → Bool
right zero e = eqb e 0
right (suc i) e = leb (suc (suc i)) (2 ^ e) && ltb (2 ^ (e - 1)) (suc (suc i))

passed : T (every right 0 logs)
unfolding right logs
passed = tt

count : length logs ≡ 961
unfolding logs
count = refl

rule : (i e : ℕ) → T (right i e) → LogRule (suc i) e
unfolding right
rule zero e t = record { one = λ _. eqb→eq e 0 t; reaches = λ h. absurd (lt_irrefl 1 h); least = λ h. absurd (lt_irrefl 1 h) }
rule (suc i) e t =
    let b = and_yes (leb (suc (suc i)) (2 ^ e)) (ltb (2 ^ (e - 1)) (suc (suc i))) t in
    record { one = λ h. omega arith; reaches = λ _. leb→le _ _ b.0; least = λ _. ltb→lt _ _ b.1 }

-- the rule of every entry
pub log_rule : (n : ℕ) → 1 ≤ n → n ≤ 961 → LogRule n (log2up n)
unfolding log2up
log_rule zero h k = absurd (lt_irrefl 0 h)
log_rule (suc i) h k =
    let c = count in
    let e : suc i - 1 ≡ i = omega arith in
    rw e (rule i (get_or logs i 0) (at right logs passed i (omega arith)))

-- 2^⟨log2 n⟩ is at least n
pub log_reaches : (n : ℕ) → n ≤ 961 → n ≤ 2 ^ log2up n
log_reaches zero k = omega arith
log_reaches (suc zero) k = pow_pos (log2up 1)
log_reaches (suc (suc n)) k = (log_rule (suc (suc n)) (omega arith) k).reaches (omega arith)

-- past the table the answer is 0
pub log_beyond : (n : ℕ) → 961 < n → log2up n ≡ 0
unfolding log2up
log_beyond n h = let c = count in get_or-eq_default logs 0 {n = n - 1} (omega arith)
