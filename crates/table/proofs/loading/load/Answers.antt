-- Question 10 on what questions 1 to 9 let through.
use Rattle.std.proofs.Common.{◌≡◌, ℕ, Bool, true, false, cond, List, [], length, sym, ap, ◌∙◌, rules, Ok, Err}
use borrow.Author.Tests.{le-leb}
use Rattle.layout.specs.declared.Table.{Table}
use Rattle.layout.specs.declared.asking.Refusal.{Refusal}
use Rattle.layout.specs.declared.asking.Question.TheVariants.{Extremes}
use Rattle.layout.specs.Contents.{Contents, table_of}
use Rattle.layout.specs.Answers.{accepted}
use Rattle.limits.specs.Limits.{fitting, value_good}
use Rattle.limits.proofs.Asked.{asked_yes}
use Rattle.table.specs.Format.{refused, loaded, parse_of, fit_of, load_of, handed, handed_out, table_from, given}
use Rattle.table.proofs.Asked.{asked_no}
use Rattle.table.proofs.Sound.{refused_from, loaded_from, parse_sound}
use Rattle.table.proofs.Structs.{contents-table_of}
use Rattle.table.proofs.loading.load.Goals as goal

-- questions 1 to 9 were answered yes: the struct t holds the table c that was read, and what is left of question 10 is its own test
record Read (bs : List ℕ) (t : Table) : Type 0 where
  c : Contents
  is : parse_of bs ≡ loaded c
  held : t ≡ table_of c
  fits : fitting t ≡ value_good c

read : (bs : List ℕ) (t : Table) → given (Ok t) ≡ handed_out (parse_of bs) → Read bs t
unfolding fitting
read bs t e =
    let l = loaded_from (parse_of bs) (sym (ap (λ h. h.said) e)) in
    let p = parse_sound bs l.0 l.1 in
    let s : t ≡ table_of l.0 = ap (λ h. h.table) e ∙ ap table_from l.1 in
    record {
      c = l.0;
      is = l.1;
      held = s;
      fits = ap fitting s
          ∙ rw (p.head.bits, p.head.drops, p.head.word, le-leb (length l.0.rects) 16 p.most) (ap value_good (contents-table_of l.0 p.most));
    }

not_read : (bs : List ℕ) (e : Refusal) → given (Err e) ≡ handed_out (parse_of bs) → given (Err e) ≡ handed_out (load_of bs)
unfolding load_of
not_read bs e h = sym (ap (λ o. handed_out (fit_of o)) (refused_from (parse_of bs) _ _ (sym (ap (λ h. h.said) h))))

-- loading a file that questions 1 to 9 let through
load_is : (bs : List ℕ) (c : Contents) (b : Bool) → parse_of bs ≡ loaded c → value_good c ≡ b → cond b (loaded c) (refused 10 0) ≡ load_of bs
unfolding load_of
load_is bs c b e g = sym (ap fit_of e ∙ ap (λ x. cond x (loaded c) (refused 10 0)) g)

pub returns-in_err-table : goal.returns-in_err-table
returns-in_err-table c = let h = not_read _ _ c.in_err-table.ensures in search (rules, h)

pub returns-in_err-unless : goal.returns-in_err-unless
returns-in_err-unless c =
    let p = read _ _ c.in_ok-table.ensures in
    let n = asked_no Extremes _ _ (sym c.unless.ensures ∙ c.in_err-unless.was) in
    let h = ap (λ x. given (Err x)) n.1 ∙ ap handed_out (load_is _ p.c false p.is (sym p.fits ∙ sym c.value_good.ensures ∙ n.0)) in
    search (rules, h)

pub returns : goal.returns
returns c =
    let p = read _ _ c.in_ok-table.ensures in
    let y = asked_yes Extremes _ _ (sym c.unless.ensures ∙ c.in_ok-unless.was) in
    ap (handed (accepted [])) p.held ∙ ap handed_out (load_is _ p.c true p.is (sym p.fits ∙ sym c.value_good.ensures ∙ y))
