-- What is printed, by what the calls say.
-- Assumes nothing.
use Prim.Native.Nat.{ℕ}
use mathlib.Core.Path.{◌≡◌, sym, ap, ◌∙◌}
use mathlib.Core.List.{List}
use lib.ListN.{length}
use Rattle.arith.specs.Tab.{tab}
use Rattle.arith.proofs.Tabs.{length-tab}
use Rattle.layout.specs.declared.Table.{Table}
use Rattle.layout.specs.Answers.{wrote}
use Rattle.table.specs.Format.{refused, load_of}
use Rattle.table.proofs.Sound.{Read}
use Rattle.text.specs.Ascii.{ascii}
use Rattle.std.proofs.Common.{Result, Ok, Err, Option, Some, None}
use Rattle.layout.specs.declared.asking.Refusal.{Refusal}
use Rattle.layout.specs.Questions.{number_of}
use Rattle.same.specs.declared.Offset.{Offset}
use Rattle.same.specs.Same.{sameness_said, same_of}
use Rattle.same.proofs.Theorems.{spot_shows, said_by_length}
use Rattle.sametable.specs.Comparison.{InGrid, refused_text, differ_text, said_text, compared_text, second_text, comparison_of}

-- ---- two tables

module _ (t u : Table) (scan : List ℕ) {out : List ℕ} (long : length scan ≡ 961) where
  compared_by : (r : Result (Option Offset) Refusal) → wrote (sameness_said r) out ≡ same_of t u scan → compared_text t u ≡ said_text t u (sameness_said r)
  unfolding compared_text
  compared_by r e =
      ap (said_text t u) (said_by_length t u (tab 961 (λ k. 0)) scan (length-tab 961 (λ k. 0) ∙ sym long) ∙ sym (ap (λ x. x.said) e))

  pub says_same : {r : Result (Option Offset) Refusal} → wrote (sameness_said r) out ≡ same_of t u scan → r ≡ Ok None → compared_text t u ≡ ascii "same\n"
  unfolding said_text
  says_same {r} e i = compared_by r e ∙ ap (λ r. said_text t u (sameness_said r)) i

  pub says_differs : {r : Result (Option Offset) Refusal} {o : Offset} → wrote (sameness_said r) out ≡ same_of t u scan → r ≡ Ok (Some o) → compared_text t u ≡ differ_text t u o.row o.col
  unfolding said_text
  says_differs {r} {o} e i = compared_by r e ∙ ap (λ r. said_text t u (sameness_said r)) i

  pub says_refused : {r : Result (Option Offset) Refusal} {q : Refusal} → wrote (sameness_said r) out ≡ same_of t u scan → r ≡ Err q
      → compared_text t u ≡ refused_text (ascii "refused, ") (number_of q.question)
  unfolding said_text
  says_refused {r} e i = compared_by r e ∙ ap (λ r. said_text t u (sameness_said r)) i

  pub in_grid : {r : Result (Option Offset) Refusal} {o : Offset} → wrote (sameness_said r) out ≡ same_of t u scan → r ≡ Ok (Some o) → InGrid o.row × InGrid o.col
  in_grid {r} {o} e i =
      let s = spot_shows t u scan o.row o.col (sym (ap (λ x. x.said) e) ∙ ap sameness_said i) in
      (record { a = s.a; less = s.a_less; is = s.row_is }, record { a = s.b; less = s.b_less; is = s.col_is })

-- ---- files

pub second_read : (t : Table) (bs : List ℕ) {u : Table} → Read bs u → second_text t (load_of bs) ≡ compared_text t u
unfolding second_text
second_read t bs r = ap (second_text t) r.is ∙ ap (compared_text t) (sym r.table)

pub second_refused : (t : Table) (bs : List ℕ) {n p : ℕ} → load_of bs ≡ refused n p → second_text t (load_of bs) ≡ refused_text (ascii "second table refused, ") n
unfolding second_text
second_refused t bs e = ap (second_text t) e

pub first_read : (cs bs : List ℕ) {t : Table} → Read cs t → comparison_of (load_of cs) (load_of bs) ≡ second_text t (load_of bs)
unfolding comparison_of
first_read cs bs r = ap (λ x. comparison_of x (load_of bs)) r.is ∙ ap (λ t. second_text t (load_of bs)) (sym r.table)

pub first_refused : (cs bs : List ℕ) {n p : ℕ} → load_of cs ≡ refused n p
    → comparison_of (load_of cs) (load_of bs) ≡ refused_text (ascii "first table refused, ") n
unfolding comparison_of
first_refused cs bs e = ap (λ x. comparison_of x (load_of bs)) e
