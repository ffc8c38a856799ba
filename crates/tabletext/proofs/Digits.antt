-- The decimal digits of a number, and an integer with its sign, read back.
-- Assumes nothing.
use Rattle.std.proofs.Common.{ℕ, zero, suc, ◌+◌, ◌-◌, ◌*◌, ◌/◌, ◌%◌, ◌≤◌, ◌<◌, arith, ◌≡◌, refl, ap, ◌∙◌, Bool, true, false, cond, not, ◌&&◌, ◌||◌, List, [], ◌∷◌, ◌++◌, leb, ltb, eqb, length, drop, length-append, ℤ, pos, negsuc, neg_ℤ, lt-ltb, le-leb, leb-true, ltb-true, eq-eqb, ne_eqb}
use Rattle.std.proofs.Math.Bool.{false≢true}
use Rattle.std.specs.Int.Signed.{mag}
use Rattle.pgm.specs.Grammar.{digit, digits, number}
use Rattle.text.specs.Text.{spell, decimal}
use Rattle.words.specs.Words.{gap, spelt, minus, sign, is_number, is_integer, size, with_sign, integer}

-- ---- lists of bytes that pass a test

pub both : (a b : Bool) → (a && b) ≡ true → (a ≡ true) × (b ≡ true)
both true b e = (refl, e)
both false b e = absurd (false≢true e)

abbrev pub every : (ℕ → Bool) → List ℕ → Bool
every p [] = true
every p (x ∷ xs) = p x && every p xs

pub every_append : (p : ℕ → Bool) (xs ys : List ℕ) → every p xs ≡ true → every p ys ≡ true → every p (xs ++ ys) ≡ true
every_append p [] ys e f = f
every_append p (x ∷ xs) ys e f = let b = both (p x) (every p xs) e in rw b.0 (every_append p xs ys b.1 f)

pub every_as : (p q : ℕ → Bool) → ((x : ℕ) → p x ≡ true → q x ≡ true) → (xs : List ℕ) → every p xs ≡ true → every q xs ≡ true
every_as p q h [] e = refl
every_as p q h (x ∷ xs) e = let b = both (p x) (every p xs) e in rw (h x b.0) (every_as p q h xs b.1)

-- ---- digits

digit_of : (d : ℕ) → d < 10 → digit (48 + d) ≡ true
unfolding digit
digit_of d h = rw (le-leb 48 (48 + d) (omega arith), le-leb (48 + d) 57 (omega arith)) refl

digit_bounds : (b : ℕ) → digit b ≡ true → (48 ≤ b) × (b ≤ 57)
unfolding digit
digit_bounds b e = let t = both (leb 48 b) (leb b 57) e in (leb-true 48 b t.0, leb-true b 57 t.1)

spell_digits : (places n : ℕ) → every digit (spell places n) ≡ true
unfolding spell
spell_digits zero n = refl
spell_digits (suc places) n = go (ltb n 10) refl (spell_digits places (n / 10))
  where
    go : (c : Bool) → ltb n 10 ≡ c → every digit (spell places (n / 10)) ≡ true
        → every digit (cond c ((48 + n) ∷ []) (spell places (n / 10) ++ ((48 + n % 10) ∷ []))) ≡ true
    go true h ih = rw (digit_of n (ltb-true n 10 h)) refl
    go false h ih = every_append digit (spell places (n / 10)) ((48 + n % 10) ∷ []) ih (rw (digit_of (n % 10) (omega arith)) refl)

digits_all : (w : List ℕ) → every digit w ≡ true → digits w ≡ length w
unfolding digits
digits_all [] e = refl
digits_all (x ∷ w) e = let b = both (digit x) (every digit w) e in rw b.0 (ap suc (digits_all w b.1))

number_append : (m : ℕ) (xs ys : List ℕ) → every digit xs ≡ true → number m (xs ++ ys) ≡ number (number m xs) ys
unfolding number
number_append m [] ys e = refl
number_append m (x ∷ xs) ys e = let b = both (digit x) (every digit xs) e in rw b.0 (number_append (m * 10 + (x - 48)) xs ys b.1)

number_last : (m d : ℕ) → d < 10 → number m ((48 + d) ∷ []) ≡ m * 10 + d
unfolding number
number_last m d h = rw (digit_of d h) (omega arith)

-- 10 to this power
tens : ℕ → ℕ
tens zero = 1
tens (suc k) = 10 * tens k

spell_reads : (places n : ℕ) → n < tens places → number 0 (spell places n) ≡ n
unfolding spell number tens
spell_reads zero n h = omega arith
spell_reads (suc places) n h = go (ltb n 10) refl (spell_reads places (n / 10) (omega arith))
  where
    go : (c : Bool) → ltb n 10 ≡ c → number 0 (spell places (n / 10)) ≡ n / 10
        → number 0 (cond c ((48 + n) ∷ []) (spell places (n / 10) ++ ((48 + n % 10) ∷ []))) ≡ n
    go true t ih = number_last 0 n (ltb-true n 10 t) ∙ omega arith
    go false t ih =
        number_append 0 (spell places (n / 10)) ((48 + n % 10) ∷ []) (spell_digits places (n / 10))
        ∙ ap (λ m. number m ((48 + n % 10) ∷ [])) ih
        ∙ number_last (n / 10) (n % 10) (omega arith)
        ∙ omega arith

spell_some : (places n : ℕ) → 1 ≤ length (spell (suc places) n)
unfolding spell
spell_some places n = go (ltb n 10)
  where
    go : (c : Bool) → 1 ≤ length (cond c ((48 + n) ∷ []) (spell places (n / 10) ++ ((48 + n % 10) ∷ [])))
    go true = omega arith
    go false = let l = length-append (spell places (n / 10)) ((48 + n % 10) ∷ []) in omega arith

-- ---- a number

pub decimal_digits : (n : ℕ) → every digit (decimal n) ≡ true
unfolding decimal
decimal_digits n = spell_digits 20 n

pub decimal_some : (n : ℕ) → 1 ≤ length (decimal n)
unfolding decimal
decimal_some n = spell_some 19 n

decimal_reads : (n : ℕ) → n < 65536 → number 0 (decimal n) ≡ n
unfolding decimal tens
decimal_reads n h = spell_reads 20 n (omega arith)

no_sign : (w : List ℕ) → every digit w ≡ true → 1 ≤ length w → minus w ≡ false
unfolding minus
no_sign [] e h = absurd (omega arith)
no_sign (x ∷ w) e h = let b = both (digit x) (every digit w) e in let d = digit_bounds x b.0 in ne_eqb x 45 (λ q. omega arith)

-- digits from a place on
spelt_all : (w d : List ℕ) (at : ℕ) → every digit d ≡ true → 1 ≤ length d → length w ≡ at + length d → drop at w ≡ d → spelt w at ≡ true
unfolding spelt
spelt_all w d at e h l q =
    rw (lt-ltb at (length w) (omega arith), q, eq-eqb (at + digits d) (length w) (let k = digits_all d e in omega arith)) refl

-- the number that was spelt is one without a sign, and is read as it was
pub number_again : (n : ℕ) → n < 65536 → (is_number (decimal n) ≡ true) × (size (decimal n) ≡ n)
unfolding is_number size sign
number_again n h =
    let m = no_sign (decimal n) (decimal_digits n) (decimal_some n) in
    (spelt_all (decimal n) (decimal n) 0 (decimal_digits n) (decimal_some n) (omega arith) refl, rw m (decimal_reads n h))

-- ---- an integer

-- with a sign in front where it is negative
abbrev pub spelled : ℤ → List ℕ
spelled (pos n) = decimal n
spelled (negsuc n) = 45 ∷ decimal (suc n)

pub integer_again : (z : ℤ) → mag z < 65535 → (is_integer (spelled z) ≡ true) × (integer (spelled z) ≡ z)
unfolding is_integer integer size sign minus with_sign
integer_again (pos n) h =
    let m = no_sign (decimal n) (decimal_digits n) (decimal_some n) in
    (rw m (spelt_all (decimal n) (decimal n) 0 (decimal_digits n) (decimal_some n) (omega arith) refl), rw m (ap pos (decimal_reads n (omega arith))))
integer_again (negsuc n) h = (
  spelt_all (45 ∷ decimal (suc n)) (decimal (suc n)) 1 (decimal_digits (suc n)) (decimal_some (suc n)) (omega arith) refl,
  ap (λ m. neg_ℤ (pos m)) (decimal_reads (suc n) (omega arith)),
)

-- ---- words

-- a byte of a word: no gap, no #, no line feed
abbrev pub plain : ℕ → Bool
plain b = not (eqb b 35 || (gap b || eqb b 10))

digit-plain : (b : ℕ) → digit b ≡ true → plain b ≡ true
unfolding gap
digit-plain b e =
    let d = digit_bounds b e in
    rw (ne_eqb b 35 (λ q. omega arith), ne_eqb b 32 (λ q. omega arith), ne_eqb b 9 (λ q. omega arith), ne_eqb b 13 (λ q. omega arith), ne_eqb b 10 (λ q. omega arith)) refl

-- a word: some bytes, all plain
abbrev pub is_word : List ℕ → Bool
is_word w = ltb 0 (length w) && every plain w

pub decimal_word : (n : ℕ) → is_word (decimal n) ≡ true
decimal_word n = rw (lt-ltb 0 (length (decimal n)) (decimal_some n)) (every_as digit plain digit-plain (decimal n) (decimal_digits n))

pub spelled_word : (z : ℤ) → is_word (spelled z) ≡ true
unfolding gap
spelled_word (pos n) = decimal_word n
spelled_word (negsuc n) =
    rw (lt-ltb 0 (length (45 ∷ decimal (suc n))) (omega arith)) (every_as digit plain digit-plain (decimal (suc n)) (decimal_digits (suc n)))
