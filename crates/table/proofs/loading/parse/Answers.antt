-- The header's questions, then the fields.
use Rattle.std.proofs.Common.{◌≡◌, ℕ, List, [], drop, sym, ap, ◌∙◌, rules, Err}
use Rattle.layout.specs.declared.asking.Refusal.{Refusal}
use Rattle.layout.specs.Answers.{Said, no_said, accepted, verdict}
use Rattle.layout.proofs.Questions.{on_verdict}
use Rattle.table.specs.Format.{refused, head_of, header_asks, fields_of, parse_of, handed_out, given}
use Rattle.table.proofs.Fields.{parse_step}
use Rattle.table.proofs.loading.parse.Goals as goal

parse_is : (bs : List ℕ) (s : Said) → s ≡ verdict (header_asks bs) → on_verdict s refused (fields_of 16 (drop 9 bs) (head_of bs)) ≡ parse_of bs
parse_is bs s e = ap (λ v. on_verdict v refused (fields_of 16 (drop 9 bs) (head_of bs))) e ∙ sym (parse_step bs)

no_header : (bs : List ℕ) (e : Refusal) → no_said e ≡ verdict (header_asks bs) → given (Err e) ≡ handed_out (parse_of bs)
no_header bs e h = ap handed_out (parse_is bs (no_said e) h)

pub returns-in_err-header : goal.returns-in_err-header
returns-in_err-header c = let h = no_header _ _ c.in_err-header.ensures.said in search (rules, h)

pub returns : goal.returns
returns c =
    let f = rw (c.split_at.ensures.back, c.in_ok-header.ensures.value) at c.fields.ensures in
    f ∙ ap handed_out (parse_is _ (accepted []) c.in_ok-header.ensures.said)
