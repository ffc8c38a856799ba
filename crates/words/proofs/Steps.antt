-- Words of a line and lines of a text, a byte at a time.
-- Assumes nothing.
use Rattle.std.proofs.Common.{◌≡◌, ℕ, suc, ◌+◌, ◌-◌, ◌≤◌, ◌<◌, Bool, true, false, cond, ◌||◌, not, eqb, nat_lt, Bor, Option, Some, None, List, [], ◌∷◌, ◌++◌, length, get_or, take, drop, refl, sym, ap, ◌∙◌, arith, append_assoc, append-nil, length-append, length-drop, length-take, take_all, drop_of_length-le, get_or-drop, add-zero}
use Rattle.std.proofs.lemmas.Grind.{common_steps}
use Rattle.std.proofs.lemmas.Bool.{false≢true}
use Rattle.std.proofs.lemmas.List.Sums.{passes_at_first, prefix_len-le-length}
use Rattle.std.specs.Option.{unwrap_or, option_map}
use Rattle.std.proofs.lemmas.Option.{unwrap_or-slice_get}
use Rattle.std.specs.List.{position, position_or_len, slice_get}
use Rattle.text.specs.Ascii.{line_length, after_line}
use Rattle.words.specs.Words.{gap, ends, ended, words_from, words_of, lines_from}

-- ---- the first byte of a kind

module _ {X : Type 0} (p : X → Bool) (xs : List X) where
  pub position_none : position p xs ≡ None → length xs ≤ position_or_len p xs
  position_none e = go (nat_lt (position_or_len p xs) (length xs)) refl e
    where
      go : (b : Bool) → nat_lt (position_or_len p xs) (length xs) ≡ b → cond b (Some (position_or_len p xs)) None ≡ None
          → length xs ≤ position_or_len p xs
      go true t e = absurd (cc)
      go false t e = grind (arith, common_steps)

  pub position_some : (n : ℕ) → position p xs ≡ Some n → (position_or_len p xs ≡ n) × (n < length xs)
  position_some n e = go (nat_lt (position_or_len p xs) (length xs)) refl e
    where
      go : (b : Bool) → nat_lt (position_or_len p xs) (length xs) ≡ b → cond b (Some (position_or_len p xs)) None ≡ Some n
          → (position_or_len p xs ≡ n) × (n < length xs)
      go true t e = let is : position_or_len p xs ≡ n = cc in (is, grind (arith, common_steps))
      go false t e = absurd (cc)

  -- where it is not there, the length in its place
  pub position_else : unwrap_or (position p xs) (length xs) ≡ position_or_len p xs
  position_else = go (nat_lt (position_or_len p xs) (length xs)) refl
    where
      go : (b : Bool) → nat_lt (position_or_len p xs) (length xs) ≡ b → unwrap_or (cond b (Some (position_or_len p xs)) None) (length xs)
          ≡ position_or_len p xs
      go true t = refl
      go false t = let l = prefix_len-le-length (λ x. not (p x)) xs in let m : length xs ≤ position_or_len p xs = grind
          (arith, common_steps) in omega arith

-- a slice that goes on to the end
pub to_end : (n : ℕ) (xs : List ℕ) → take (length xs - n) (drop n xs) ≡ drop n xs
to_end n xs = take_all (length xs - n) (drop n xs) (let l = length-drop n xs in omega arith)

-- ---- words

-- how many gaps a line begins with, and how many bytes the word has that it begins with
abbrev pub gaps : List ℕ → ℕ
gaps line = position_or_len (λ b. not (gap b)) line

abbrev pub bytes : List ℕ → ℕ
bytes line = position_or_len ends line

not_yes : (b : Bool) → not b ≡ true → b ≡ false
not_yes true e = sym e
not_yes false e = refl

-- a # is no gap
gap_no_hash : (b : ℕ) → gap b ≡ true → eqb b 35 ≡ false
unfolding gap
gap_no_hash b e = grind (arith, common_steps)

one_more : (n : ℕ) → 1 + n ≡ suc n
one_more n = omega arith

-- the gaps that begin a line are passed
pub gaps_passed : (line : List ℕ) → words_of (drop (gaps line) line) ≡ words_of line
unfolding words_of words_from ended
gaps_passed [] = refl
gaps_passed (b ∷ line) = go (gap b) refl (gaps_passed line)
  where
    go : (g : Bool) → gap b ≡ g → words_of (drop (gaps line) line) ≡ words_of line
        → words_of (drop (cond (not (not g)) (1 + (gaps line)) 0) (b ∷ line)) ≡ words_of (b ∷ line)
    go true e ih = rw (one_more (gaps line), gap_no_hash b e, e) ih
    go false e ih = refl

-- a word that has begun goes on to the first byte that ends it
pub word_goes : (word line : List ℕ)
    → words_from word line ≡ ended (word ++ take (bytes line) line) (words_of (drop (bytes line) line))
unfolding words_of words_from ended
word_goes word [] = rw (append-nil word) refl
word_goes word (b ∷ line) = go (gap b) (eqb b 35) refl refl (word_goes (word ++ (b ∷ [])) line)
  where
    go : (g h : Bool) → gap b ≡ g → eqb b 35 ≡ h
        → words_from (word ++ (b ∷ [])) line ≡ ended ((word ++ (b ∷ [])) ++ take (bytes line) line) (words_of (drop (bytes line) line))
        → cond h (ended word []) (cond g (ended word (words_from [] line)) (words_from (word ++ (b ∷ [])) line))
        ≡ ended (word ++ take (cond (not (g || h)) (1 + (bytes line)) 0) (b ∷ line)) (words_of (drop (cond (not (g || h)) (1 + (bytes line)) 0)
        (b ∷ line)))
    go true true e f ih = rw (append-nil word, e, f) refl
    go true false e f ih = rw (append-nil word, e, f) refl
    go false true e f ih = rw (append-nil word, f) refl
    go false false e f ih = rw (one_more (bytes line)) (ih
        ∙ ap (λ w. ended w (words_of (drop (bytes line) line))) (append_assoc word (b ∷ []) (take (bytes line) line)))

-- there is none where the first byte is a #, nor on an empty line
pub word_none : (line : List ℕ) → (0 < length line → gap (get_or line 0 0) ≡ false) → position_or_len ends line ≡ 0 → words_of line ≡ []
unfolding words_of words_from ended
word_none [] g e = refl
word_none (b ∷ line) g e = go (gap b) (eqb b 35) refl (g (omega arith)) e
  where
    go : (g h : Bool) → eqb b 35 ≡ h → g ≡ false → cond (not (g || h)) (1 + (bytes line)) 0 ≡ 0 → words_of (b ∷ line) ≡ []
    go true h f q z = absurd (false≢true (sym q))
    go false true f q z = rw f refl
    go false false f q z = absurd (omega arith)

pub ended_some : (word : List ℕ) (ws : List (List ℕ)) → 0 < length word → ended word ws ≡ word ∷ ws
unfolding ended
ended_some [] ws h = absurd (omega arith)
ended_some (b ∷ word) ws h = refl

-- ---- the next word of a line

module _ (line : List ℕ) where
  -- no byte but gaps
  pub next_blank : position (λ b. not (gap b)) line ≡ None → words_of line ≡ []
  unfolding words_of words_from ended
  next_blank e =
      let n = position_none (λ b. not (gap b)) line e in
      sym (gaps_passed line) ∙ ap words_of (drop_of_length-le line {i = gaps line} n)

  module _ (n : ℕ) (is : position (λ b. not (gap b)) line ≡ Some n) where
    passed : words_of (drop n line) ≡ words_of line
    passed = let p = position_some (λ b. not (gap b)) line n is in ap (λ k. words_of (drop k line)) (sym p.0) ∙ gaps_passed line

    no_gap : gap (get_or (drop n line) 0 0) ≡ false
    no_gap =
        let p = position_some (λ b. not (gap b)) line n is in
        let h = passes_at_first (λ b. not (gap b)) line 0 (omega arith) in
        let at : get_or (drop n line) 0 0 ≡ get_or line (gaps line) 0 = get_or-drop n line 0 0 ∙ ap (λ k. get_or line k 0) (add-zero n ∙ sym p.0) in
        rw at (not_yes _ h)

    some : (k : ℕ) → 0 < k → 0 < length (take k (drop n line))
    some k h = let p = position_some (λ b. not (gap b)) line n is in let l = length-drop n line in omega (arith, length-take k (drop n line))

    module _ (rest : List ℕ) (r : rest ≡ drop n line) (k : ℕ) (e : k ≡ unwrap_or (position ends rest) (length rest)) where
      bytes_are : bytes (drop n line) ≡ k
      bytes_are = sym (e ∙ position_else ends rest ∙ ap bytes r)

      -- a comment
      pub next_none : k ≡ 0 → words_of line ≡ []
      next_none z = sym passed ∙ word_none (drop n line) (λ h. no_gap) (bytes_are ∙ z)

      -- a word and what is behind it
      pub next_some : 0 < k → words_of line ≡ take k rest ∷ words_of (drop k rest)
      unfolding words_of
      next_some h =
          sym passed ∙ word_goes [] (drop n line) ∙ ap (λ j. ended (take j (drop n line)) (words_of (drop j (drop n line)))) bytes_are
          ∙ ended_some _ _ (some k h) ∙ ap (λ l. take k l ∷ words_of (drop k l)) (sym r)

-- word k, or none
pub nth_word : (o : Option (Bor (List ℕ))) (d : Bor (List ℕ)) (ws : List (List ℕ)) (k : ℕ) → option_map (λ w. w.now) o ≡ slice_get ws k
    → (unwrap_or o d).now ≡ get_or ws k d.now
nth_word None d ws k e = ap (λ x. unwrap_or x d.now) e ∙ unwrap_or-slice_get ws k d.now
nth_word (Some w) d ws k e = ap (λ x. unwrap_or x d.now) e ∙ unwrap_or-slice_get ws k d.now

-- ---- lines

pub line_goes : (text : List ℕ) → position_or_len (λ b. eqb b 10) text ≡ line_length text
unfolding line_length
line_goes [] = refl
line_goes (b ∷ text) = go (eqb b 10) (line_goes text)
  where
    go : (g : Bool) → (position_or_len (λ b. eqb b 10) text) ≡ line_length text → cond (not g) (1 + (position_or_len (λ b. eqb b 10) text)) 0
        ≡ cond g 0 (suc (line_length text))
    go true e = refl
    go false e = one_more (position_or_len (λ b. eqb b 10) text) ∙ ap suc e

module _ (text : List ℕ) where
  pub line_last : position (λ b. eqb b 10) text ≡ None → length text ≤ line_length text
  line_last e = let l = position_none (λ b. eqb b 10) text e in let g = line_goes text in omega arith

  pub line_some : (n : ℕ) → position (λ b. eqb b 10) text ≡ Some n → (line_length text ≡ n) × (n < length text)
  line_some n e = let p = position_some (λ b. eqb b 10) text n e in (sym (line_goes text) ∙ p.0, p.1)

pub lines_none : lines_from [] [] ≡ []
unfolding lines_from ended
lines_none = refl

-- a line that has begun goes on to the line feed
lines_step : (line text : List ℕ) → 0 < length line + length text
    → lines_from line text ≡ (line ++ take (line_length text) text) ∷ lines_from [] (after_line text)
unfolding lines_from line_length after_line ended
lines_step line [] h = ended_some line [] (omega arith) ∙ ap (λ l. l ∷ []) (sym (append-nil line))
lines_step line (b ∷ text) h = go (eqb b 10) (lines_step (line ++ (b ∷ [])) text (let l = length-append line (b ∷ []) in omega arith))
  where
    go : (c : Bool)
        → lines_from (line ++ (b ∷ [])) text
        ≡ ((line ++ (b ∷ [])) ++ take (line_length text) text) ∷ lines_from [] (drop (suc (line_length text)) text)
        → cond c (line ∷ lines_from [] text) (lines_from (line ++ (b ∷ [])) text)
        ≡ (line ++ take (cond c 0 (suc (line_length text))) (b ∷ text)) ∷ lines_from [] (drop (suc (cond c 0 (suc (line_length text)))) (b ∷ text))
    go true e = ap (λ l. l ∷ lines_from [] text) (sym (append-nil line))
    go false e = e ∙ ap (λ l. l ∷ lines_from [] (drop (suc (line_length text)) text)) (append_assoc line (b ∷ []) (take (line_length text) text))

-- the first line of a text, and those behind it
pub lines_first : (text : List ℕ) → 0 < length text → lines_from [] text ≡ take (line_length text) text ∷ lines_from [] (after_line text)
lines_first text h = lines_step [] text (omega arith)
