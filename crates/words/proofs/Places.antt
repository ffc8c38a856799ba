-- Where the words of a line stand in it.
-- Assumes nothing.
use Rattle.std.proofs.Common.{◌≡◌, ℕ, zero, suc, ◌+◌, ◌-◌, ◌≤◌, ◌<◌, Bool, true, false, cond, eqb, List, [], ◌∷◌, ◌++◌, length, get_or, take, drop, refl, sym, ap, ◌∙◌, arith, subst, append_assoc, length-append, length-drop}
use Rattle.std.proofs.lemmas.List.{drop-drop}
use Rattle.std.proofs.Math.Seq.{drop-append_seam, take-append_seam}
use Rattle.words.specs.Words.{gap, ended, words_from, words_of, IsPart, Next}

-- what stands before a part of a line, and behind it
abbrev Around : (line part : List ℕ) → Type 0
Around line part = (before : List ℕ) × (behind : List ℕ) × (line ≡ before ++ (part ++ behind))

no_part : (line : List ℕ) → Around line []
no_part line = ([], line, refl)

-- a part of what stands behind some bytes
behind : (w line part : List ℕ) → Around line part → Around (w ++ line) part
behind w line part r = (w ++ r.0, r.1, ap (λ l. w ++ l) r.2 ∙ sym (append_assoc w r.0 (part ++ r.1)))

-- a word that has begun, and those behind it
ended_in : (w line : List ℕ) (ws : List (List ℕ)) (k : ℕ) → ((j : ℕ) → Around line (get_or ws j [])) → Around (w ++ line) (get_or (ended w ws) k [])
unfolding ended
ended_in [] line ws k h = h k
ended_in (b ∷ w) line ws zero h = ([], line, refl)
ended_in (b ∷ w) line ws (suc k) h = behind (b ∷ w) line _ (h k)

word_in : (w line : List ℕ) (k : ℕ) → Around (w ++ line) (get_or (words_from w line) k [])
unfolding words_from
word_in w [] k = ended_in w [] [] k (λ j. no_part [])
word_in w (b ∷ line) k = go (gap b) (eqb b 35) (λ j. word_in [] line j) (word_in (w ++ (b ∷ [])) line k)
  where
    go : (g h : Bool) → ((j : ℕ) → Around line (get_or (words_from [] line) j []))
        → Around ((w ++ (b ∷ [])) ++ line) (get_or (words_from (w ++ (b ∷ [])) line) k [])
        → Around (w ++ (b ∷ line)) (get_or (cond h (ended w []) (cond g (ended w (words_from [] line)) (words_from (w ++ (b ∷ [])) line))) k [])
    go g true i r = ended_in w (b ∷ line) [] k (λ j. no_part (b ∷ line))
    go true false i r = ended_in w (b ∷ line) (words_from [] line) k (λ j. behind (b ∷ []) line _ (i j))
    go false false i r = (r.0, r.1, sym (append_assoc w (b ∷ []) line) ∙ r.2)

-- what stands between two others stands from one place to another
between : (before part behind : List ℕ) → IsPart (before ++ (part ++ behind)) part
between before part behind = record {
  start = length before;
  end = length before + length part;
  forth = omega arith;
  within = omega (arith, length-append before (part ++ behind), length-append part behind);
  is = let e : (length before + length part) - length before ≡ length part = omega arith in
      rw (e, drop-append_seam before (part ++ behind)) (sym (take-append_seam part behind));
}

-- each word of a line is a part of it
pub word_stands : (line : List ℕ) (k : ℕ) → IsPart line (get_or (words_of line) k [])
unfolding words_of
word_stands line k =
    let r = word_in [] line k in
    subst (λ (l : List ℕ). IsPart l (get_or (words_from [] line) k [])) (sym r.2) (between r.0 (get_or (words_from [] line) k []) r.1)

-- the word that begins behind some gaps, and the rest behind it
pub next_stands : (line : List ℕ) (start : ℕ) (rest : List ℕ) → rest ≡ drop start line → (n : ℕ) → 0 < n → n ≤ length rest
    → Next line (take n rest) (drop n rest)
next_stands line start rest e n some within = record {
  start = start;
  end = start + n;
  forth = omega arith;
  within = let l : length rest ≡ length line - start = ap length e ∙ length-drop start line in omega arith;
  word_is = let m : (start + n) - start ≡ n = omega arith in rw (m, e) refl;
  rest_is = ap (drop n) e ∙ drop-drop n start line;
}
