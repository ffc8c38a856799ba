-- Word k of those that come.
-- Assumes nothing.
use Rattle.std.proofs.Common.{◌≡◌, [], get_or, refl, ap, ◌∙◌}
use Rattle.std.proofs.lemmas.Iterator.Consumers.{nth_from_yields_List, YieldsList-from_first}
use Rattle.words.specs.declared.parts.Words.{Words}
use Rattle.words.specs.Words.{words_of}
use Rattle.words.proofs.Steps.{nth_word}
use Rattle.words.proofs.Places.{word_stands}
use Rattle.words.proofs.parts.word.Goals as goal

value_is : (c : goal.After-unwrap_or) → c.unwrap_or.result.now ≡ get_or (words_of c.args.line.now) c.args.k []
value_is c = let n = nth_from_yields_List c.nth.result c.nth.new.self c.args.k c.nth.ensures.ran (YieldsList-from_first (λ w. w.now) (λ
    (s : Words). words_of s.0.now) _ refl) in
    ap (λ w. w.now) c.unwrap_or.ensures ∙ nth_word c.nth.result _ (words_of c.args.line.now) c.args.k n

pub returns-clause-value : goal.returns-clause-value
returns-clause-value c = value_is c

pub returns-clause-stands : goal.returns-clause-stands
returns-clause-stands c = rw (value_is c) (word_stands c.args.line.now c.args.k)
