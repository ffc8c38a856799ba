-- Words with spaces between, and lines one after the other, read back.
-- Assumes nothing.
use Rattle.std.proofs.Common.{ℕ, ◌≡◌, refl, sym, ap, ◌∙◌, Bool, true, false, not, ◌&&◌, ◌||◌, List, [], ◌∷◌, ◌++◌, append_assoc, append-nil, ltb, eqb, length}
use Rattle.std.proofs.Math.Bool.{false≢true}
use Rattle.words.specs.Words.{gap, ended, words_from, words_of, lines_from, words_of_each, lines_of}
use Rattle.tabletext.proofs.Digits.{both, every, plain, is_word}

-- what a plain byte is not
plain_parts : (a b c : Bool) → not (a || (b || c)) ≡ true → (a ≡ false) × (b ≡ false) × (c ≡ false)
plain_parts true b c e = absurd (false≢true e)
plain_parts false true c e = absurd (false≢true e)
plain_parts false false true e = absurd (false≢true e)
plain_parts false false false e = (refl, refl, refl)

-- a word goes on over plain bytes, and so does a line
words_on : (w acc bs : List ℕ) → every plain w ≡ true → words_from acc (w ++ bs) ≡ words_from (acc ++ w) bs
unfolding words_from
words_on [] acc bs e = ap (λ a. words_from a bs) (sym (append-nil acc))
words_on (x ∷ w) acc bs e =
    let b = both (plain x) (every plain w) e in
    let p = plain_parts (eqb x 35) (gap x) (eqb x 10) b.0 in
    rw (p.0, p.1) (words_on w (acc ++ (x ∷ [])) bs b.1 ∙ ap (λ a. words_from a bs) (append_assoc acc (x ∷ []) w))

lines_on : (w acc bs : List ℕ) → every plain w ≡ true → lines_from acc (w ++ bs) ≡ lines_from (acc ++ w) bs
unfolding lines_from
lines_on [] acc bs e = ap (λ a. lines_from a bs) (sym (append-nil acc))
lines_on (x ∷ w) acc bs e =
    let b = both (plain x) (every plain w) e in
    let p = plain_parts (eqb x 35) (gap x) (eqb x 10) b.0 in
    rw p.2 (lines_on w (acc ++ (x ∷ [])) bs b.1 ∙ ap (λ a. lines_from a bs) (append_assoc acc (x ∷ []) w))

-- a word ends
word_ended : (w : List ℕ) (ws : List (List ℕ)) → is_word w ≡ true → ended w ws ≡ w ∷ ws
unfolding ended
word_ended [] ws e = absurd (false≢true e)
word_ended (x ∷ w) ws e = refl

-- ---- a line

-- its first word and further ones, with a space before each of them
abbrev pub joined : (w : List ℕ) → (ws : List (List ℕ)) → List ℕ
joined w [] = w
joined w (v ∷ ws) = w ++ (32 ∷ joined v ws)

-- the same with a line feed and what follows behind it
abbrev pub lined : (w : List ℕ) → (ws : List (List ℕ)) → (rest : List ℕ) → List ℕ
lined w [] rest = w ++ (10 ∷ rest)
lined w (v ∷ ws) rest = w ++ (32 ∷ lined v ws rest)

-- they are all words
abbrev pub are_words : List (List ℕ) → Bool
are_words [] = true
are_words (w ∷ ws) = is_word w && are_words ws

words_again : (w : List ℕ) (ws : List (List ℕ)) → are_words (w ∷ ws) ≡ true → words_of (joined w ws) ≡ w ∷ ws
unfolding words_of words_from gap
words_again w [] e =
    let b = both (is_word w) true e in
    let p = both (ltb 0 (length w)) (every plain w) b.0 in
    ap (words_from []) (sym (append-nil w)) ∙ words_on w [] [] p.1 ∙ word_ended w [] b.0
words_again w (v ∷ ws) e =
    let b = both (is_word w) (are_words (v ∷ ws)) e in
    let p = both (ltb 0 (length w)) (every plain w) b.0 in
    words_on w [] (32 ∷ joined v ws) p.1 ∙ word_ended w (words_of (joined v ws)) b.0 ∙ ap (λ l. w ∷ l) (words_again v ws b.1)

line_split : (acc w : List ℕ) (ws : List (List ℕ)) (rest : List ℕ) → are_words (w ∷ ws) ≡ true
    → lines_from acc (lined w ws rest) ≡ (acc ++ joined w ws) ∷ lines_from [] rest
unfolding lines_from
line_split acc w [] rest e =
    let b = both (is_word w) true e in
    let p = both (ltb 0 (length w)) (every plain w) b.0 in
    lines_on w acc (10 ∷ rest) p.1
line_split acc w (v ∷ ws) rest e =
    let b = both (is_word w) (are_words (v ∷ ws)) e in
    let p = both (ltb 0 (length w)) (every plain w) b.0 in
    lines_on w acc (32 ∷ lined v ws rest) p.1
    ∙ line_split ((acc ++ w) ++ (32 ∷ [])) v ws rest b.1
    ∙ ap (λ l. l ∷ lines_from [] rest) (append_assoc (acc ++ w) (32 ∷ []) (joined v ws) ∙ append_assoc acc w (32 ∷ joined v ws))

-- a line is read as its words, and what follows by itself
pub line_again : (w : List ℕ) (ws : List (List ℕ)) (rest : List ℕ) → are_words (w ∷ ws) ≡ true
    → lines_of (lined w ws rest) ≡ (w ∷ ws) ∷ lines_of rest
unfolding lines_of words_of_each
line_again w ws rest e =
    ap words_of_each (line_split [] w ws rest e) ∙ ap (λ l. l ∷ words_of_each (lines_from [] rest)) (words_again w ws e)
