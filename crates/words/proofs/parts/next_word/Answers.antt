-- Past the gaps, up to what ends the word.
-- Assumes nothing.
use Rattle.std.proofs.Common.{sym, ◌∙◌, arith, rules}
use Rattle.words.proofs.Steps.{next_blank, next_none, next_some, to_end}
use Rattle.words.proofs.Places.{next_stands}
use Rattle.words.proofs.parts.next_word.Goals as goal

pub returns-in_err-start-clause-words : goal.returns-in_err-start-clause-words
returns-in_err-start-clause-words c = rw c.from_residual.ensures (next_blank _ (sym c.word_start.ensures ∙ c.in_err-start.was))

pub returns-then-end-eq0-clause-words : goal.returns-then-end-eq0-clause-words
returns-then-end-eq0-clause-words c =
    next_none c.args.line.now c.in_ok-start.start (sym c.word_start.ensures
    ∙ c.in_ok-start.was) _ (to_end c.in_ok-start.start c.args.line.now) c.unwrap_or-end.result
    (rw c.word_end.ensures at c.unwrap_or-end.ensures) c.if-end-eq0.true

pub returns-else-end-eq0-clause-stands : goal.returns-else-end-eq0-clause-stands
returns-else-end-eq0-clause-stands c =
    let r = to_end c.in_ok-start.start c.args.line.now in
    let w = next_stands c.args.line.now c.in_ok-start.start _ r c.unwrap_or-end.result (omega arith) (search rules) in
    rw (c.split_at.ensures.front, c.split_at.ensures.back) w

pub returns-else-end-eq0-clause-words : goal.returns-else-end-eq0-clause-words
returns-else-end-eq0-clause-words c =
    let w = next_some c.args.line.now c.in_ok-start.start (sym c.word_start.ensures
    ∙ c.in_ok-start.was) _ (to_end c.in_ok-start.start c.args.line.now) c.unwrap_or-end.result
    (rw c.word_end.ensures at c.unwrap_or-end.ensures) (omega arith) in
    rw (c.split_at.ensures.front, c.split_at.ensures.back) w
