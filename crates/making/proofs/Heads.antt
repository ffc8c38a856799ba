-- The header's lines, as they come.
-- Assumes nothing.
use Rattle.std.proofs.Common.{◌≡◌, ℕ, suc, ◌+◌, List, [], ◌∷◌, Option, Some, None, length, get_or, refl, sym, ap, ◌∙◌, arith, le-leb}
use Rattle.std.proofs.lemmas.Bool.{lt-leb}
use Rattle.std.specs.Prelude.{MatchOption, unwrap_or}
use Rattle.layout.specs.Answers.{refused, accepted, verdict}
use Rattle.words.specs.Words.{ended, words_from, words_of}
use Rattle.making.specs.declared.lines.Line.{Line as Found}
use Rattle.making.specs.Making.{Line, line, once_asks}
use Rattle.making.specs.Steps.{line_said}

pub no_words : words_of [] ≡ []
unfolding words_of words_from ended
no_words = refl

-- the first line, or one in its place
pub first_is : (o : Option Found) (d : Found) (ls rest : List Line) → MatchOption o ((ls ≡ []) × (rest ≡ [])) (λ l. ls ≡ line_said l ∷ rest)
    → line_said d ≡ line 0 [] → line_said (unwrap_or o d) ≡ get_or ls 0 (line 0 [])
first_is None d ls rest s e = e ∙ ap (λ l. get_or l 0 (line 0 [])) (sym s.0)
first_is (Some l) d ls rest s e = ap (λ l. get_or l 0 (line 0 [])) (sym s)

-- ---- whether there is one

module _ (kind : ℕ) (ls : List Line) where
  pub once_none : (n : ℕ) → n ≡ 109 + kind → ls ≡ [] → refused n 0 ≡ verdict (once_asks kind ls)
  unfolding once_asks
  once_none n m e = ap (λ k. refused k 0) m ∙ ap (λ l. verdict (once_asks kind l)) (sym e)

  module _ (l : Line) (r : List Line) (is : ls ≡ l ∷ r) where
    pub once_one : r ≡ [] → accepted [] ≡ verdict (once_asks kind ls)
    unfolding once_asks
    once_one e = ap (λ x. verdict (once_asks kind x)) (sym (is ∙ ap (λ x. l ∷ x) e))

    pub once_two : (l' : Line) (r' : List Line) → r ≡ l' ∷ r' → refused 108 l'.place ≡ verdict (once_asks kind ls)
    unfolding once_asks
    once_two l' r' e = two l' r' ∙ ap (λ x. verdict (once_asks kind x)) (sym (is ∙ ap (λ x. l ∷ x) e))
      where
        two : (l' : Line) (r' : List Line) → refused 108 l'.place ≡ verdict (once_asks kind (l ∷ l' ∷ r'))
        two l' r' = rw (le-leb 1 (suc (suc (length r'))) (omega arith), lt-leb (suc (suc (length r'))) 1 (omega arith)) refl
