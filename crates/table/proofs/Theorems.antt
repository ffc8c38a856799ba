-- What is promised of tables, loading and writing. `load_of bs` is what loading the bytes bs comes to, `loaded c` the table c.
-- Assumes nothing.
use Rattle.std.proofs.Common.{ℕ, ◌+◌, ◌≤◌, arith, ◌≡◌, refl, sym, ap, ◌∙◌, subst, ◌↔◌, Bool, true, false, cond, List, [], ◌∷◌, ◌++◌, T, le-leb, length, take, drop, pos}
use Rattle.std.proofs.Math.Facts.{yes_and}
use Rattle.std.proofs.Math.Seq.{take-append-add}
use Rattle.arith.proofs.Bools.{true_of}
use Rattle.layout.specs.declared.Table.{Table}
use Rattle.layout.specs.Contents.{Contents, contents}
use Rattle.layout.specs.Answers.{refused as refusal, accepted, wrote}
use Rattle.limits.specs.Limits.{bits_good, value_good, areas_good, shaped, within, acceptable}
use Rattle.limits.proofs.Values.{areas_suffice}
use Rattle.table.specs.Format.{Bytes, Outcome, refused, loaded, marked, parse_of, load_of, said_of, table_from, read_most, encode}
use Rattle.table.specs.Before.{load_before, Overlong, Stray}
use Rattle.table.specs.Writing.{file_length, write_of}
use Rattle.table.proofs.Numbers.{Number, Outcomes, loads, fails, number_of, load_numbers}
use Rattle.table.proofs.Sound.{same_contents, parse_sound, fit_loaded, load_sound}
use Rattle.table.proofs.Complete.{shaped_of, load_read, encode_bytes}
use Rattle.table.proofs.Structs.{contents-table_of}
use Rattle.table.proofs.Encoded.{length-encode, length_file}
use Rattle.table.proofs.Behind.{load_behind, before_behind, Compared, alike, overlong, compared}
use Rattle.table.proofs.Taken.{load_take}

-- L4: every table within the limits is accepted, and written and loaded it is the same table
pub every_table_loads : (c : Contents) → T (within c) → load_of (encode c) ≡ loaded c
every_table_loads c t = load_read c t

-- L5: an accepted file is its table's file
pub written_back : (bs : List ℕ) (c : Contents) → Bytes bs → load_of bs ≡ loaded c → encode c ≡ bs
written_back bs c byte e = (load_sound bs c e).0.again byte

-- the table of a file that passes questions 1 to 9 is within the limits but for question 10
pub parsed_shaped : (bs : List ℕ) (c : Contents) → Bytes bs → parse_of bs ≡ loaded c → T (shaped c)
parsed_shaped bs c byte e =
    let p = parse_sound bs c e in
    shaped_of c (record { head = p.head; some = p.some; most = p.most; fine = λ k l. (subst T (sym (p.good k l)) tt, p.weights byte k l) })

-- the table of an accepted file is within the limits
pub loaded-within : (bs : List ℕ) (c : Contents) → Bytes bs → load_of bs ≡ loaded c → T (within c)
unfolding within load_of
loaded-within bs c byte e =
    let a = fit_loaded (parse_of bs) c e in
    yes_and (shaped c) (value_good c) (parsed_shaped bs c byte a.0) (subst T (sym a.1) tt)

-- M104-4: every table that was accepted by the areas alone is accepted
pub accepted_before : (c : Contents) → T (shaped c) → T (areas_good c) → load_of (encode c) ≡ loaded c
unfolding within
accepted_before c s a = load_read c (yes_and (shaped c) (value_good c) s (areas_suffice c a))

-- a file that passes questions 1 to 9 gets 10 exactly where its table's question 10 is answered no
pub load_ten : (bs : List ℕ) (c : Contents) → parse_of bs ≡ loaded c → (load_of bs ≡ refused 10 0) ↔ (value_good c ≡ false)
unfolding load_of
load_ten bs c e = rw e (go (value_good c))
  where
    go : (b : Bool) → (cond b (loaded c) (refused 10 0) ≡ refused 10 0) ↔ (b ≡ false)
    go true = ((λ h. absurd (let z : ◌≡◌ {A = ℕ} 0 1 = cc in omega arith)), λ h. absurd (subst T h tt))
    go false = ((λ h. refl), λ h. refl)

-- L3: question 11 says yes of a struct exactly when some file loads to the table that it holds
pub accepted_exactly : (t : Table) → (acceptable t ≡ true) ↔ ((bs : List ℕ) × Bytes bs × (load_of bs ≡ loaded (contents t)))
unfolding acceptable
accepted_exactly t = (
  (λ e. let w = subst T (sym e) tt in (encode (contents t), encode_bytes (contents t) w, load_read (contents t) w)),
  λ h. true_of _ (loaded-within h.0 (contents t) h.1 h.2),
)

-- L6: two tables within the limits with one file are one table
pub encode_injective : (c d : Contents) → T (within c) → T (within d) → encode c ≡ encode d → c ≡ d
encode_injective c d p q e = same_contents (sym (load_read c p) ∙ ap load_of e ∙ load_read d q)

-- L2: the number of the check is 0 exactly when the file is accepted
pub check_zero : (bs : List ℕ) → ((said_of (load_of bs)).number ≡ 0) ↔ ((c : Contents) × (load_of bs ≡ loaded c))
check_zero bs = (go (load_of bs) (load_numbers bs), λ h. rw h.1)
  where
    go : (o : Outcome) → Outcomes o → (said_of o).number ≡ 0 → (c : Contents) × (o ≡ loaded c)
    go o (fails h) e = absurd (let l = h.least in omega arith)
    go o (loads {c}) e = (c, refl)

-- a refused file gets a number from 1 to 10, and place 0
pub refusal_numbers : (bs : List ℕ) (n p : ℕ) → load_of bs ≡ refused n p → Number n p
refusal_numbers bs n p e = number_of (subst Outcomes e (load_numbers bs))

-- J1: what loading hands out holds the table of the file, and question 11 says yes of it
pub loaded_accepted : (bs : List ℕ) (c : Contents) → Bytes bs → load_of bs ≡ loaded c
    → (contents (table_from (load_of bs)) ≡ c) × (acceptable (table_from (load_of bs)) ≡ true)
unfolding acceptable
loaded_accepted bs c byte e =
    let same = ap (λ o. contents (table_from o)) e ∙ contents-table_of c (load_sound bs c e).0.most in
    (same, ap within same ∙ true_of (within c) (loaded-within bs c byte e))

-- J2, the last sentence of demand 2: the table of an accepted file, written into an output that is long enough, is answered with the
-- length of the file, and the output holds the file and beyond it what was there
pub file_again : (bs : List ℕ) (c : Contents) (out : List ℕ) → Bytes bs → load_of bs ≡ loaded c → length bs ≤ length out
    → write_of (table_from (load_of bs)) out ≡ wrote (accepted (pos (length bs) ∷ [])) (bs ++ drop (length bs) out)
unfolding write_of
file_again bs c out byte e h =
    let a = loaded_accepted bs c byte e in
    let t = table_from (load_of bs) in
    let file : encode (contents t) ≡ bs = ap encode a.0 ∙ written_back bs c byte e in
    let size : file_length t ≡ length bs = sym (length_file t) ∙ ap length file in
    rw (a.1, file, size, le-leb (length bs) (length out) h)

-- J4: the table of a refused file is refused by question 11, and writing it leaves the output as it was
pub refused_table : (bs : List ℕ) (n p : ℕ) → load_of bs ≡ refused n p
    → (acceptable (table_from (load_of bs)) ≡ false) × ((out : List ℕ) → write_of (table_from (load_of bs)) out ≡ wrote (refusal 11 0) out)
unfolding acceptable within shaped bits_good write_of
refused_table bs n p e = rw e (refl, λ out. refl)

-- M105-1: behind sixteen rectangles a field's mark is refused with 6, and anything else with 7
pub after_sixteen : (bs : List ℕ) (o : Overlong bs) → load_of bs ≡ refused (cond (marked 2 o.rest) 6 7) 0
after_sixteen bs o = ap load_of o.is ∙ load_behind o.table o.rest o.good o.sixteen o.more

-- and no other file is refused with 6
pub six_exactly : (bs : List ℕ) → Bytes bs → (load_of bs ≡ refused 6 0) ↔ ((o : Overlong bs) × (marked 2 o.rest ≡ true))
six_exactly bs byte = (go (compared bs byte), λ h. after_sixteen bs h.0 ∙ ap (λ m. refused (cond m 6 7) 0) h.1)
  where
    mark : (m : Bool) → refused (cond m 6 7) 0 ≡ refused 6 0 → m ≡ true
    mark true e = refl
    mark false e = absurd (let z : ◌≡◌ {A = ℕ} 7 6 = cc in omega arith)

    go : Compared bs → load_of bs ≡ refused 6 0 → (o : Overlong bs) × (marked 2 o.rest ≡ true)
    go (alike e n) s = absurd (n s)
    go (overlong o) s = (o, mark (marked 2 o.rest) (sym (after_sixteen bs o) ∙ s))

-- M105-2: every file is answered as before, but for those with anything but a field's mark behind sixteen rectangles: 6 became 7
pub changed_exactly : (bs : List ℕ) → Bytes bs
    → (¬ Stray bs → load_of bs ≡ load_before bs) × (Stray bs → (load_before bs ≡ refused 6 0) × (load_of bs ≡ refused 7 0))
changed_exactly bs byte = (go (compared bs byte), λ h. (before h.0, after_sixteen bs h.0 ∙ ap (λ m. refused (cond m 6 7) 0) h.1))
  where
    before : Overlong bs → load_before bs ≡ refused 6 0
    before o = ap load_before o.is ∙ before_behind o.table o.rest o.good o.sixteen o.more

    marks : (o : Overlong bs) (m : Bool) → marked 2 o.rest ≡ m → ¬ Stray bs → load_of bs ≡ load_before bs
    marks o true e n = after_sixteen bs o ∙ ap (λ m. refused (cond m 6 7) 0) e ∙ sym (before o)
    marks o false e n = absurd (n (o, e))

    go : Compared bs → ¬ Stray bs → load_of bs ≡ load_before bs
    go (alike e n) = λ _. e
    go (overlong o) = marks o (marked 2 o.rest) refl

-- M105-3: the first 156 bytes of a file are enough: the table has at most 9 + 9·16 = 153, and of what follows only whether it begins
-- with a field's mark matters
pub first_156 : (bs : List ℕ) → load_of (take read_most bs) ≡ load_of bs
first_156 bs = load_take read_most bs (omega arith)

-- 155 are not: of a mark behind sixteen rectangles they hold two bytes
pub not_155 : (c : Contents) → T (shaped c) → length c.rects ≡ 16
    → (load_of (take 155 (encode c ++ (2 ∷ 0 ∷ 6 ∷ []))) ≡ refused 7 0) × (load_of (encode c ++ (2 ∷ 0 ∷ 6 ∷ [])) ≡ refused 6 0)
unfolding marked
not_155 c good sixteen =
    let n : 155 ≡ length (encode c) + 2 = let l = length-encode c in omega arith in (
      ap (λ k. load_of (take k (encode c ++ (2 ∷ 0 ∷ 6 ∷ [])))) n
          ∙ ap load_of (take-append-add (encode c) (2 ∷ 0 ∷ 6 ∷ []) 2)
          ∙ load_behind c (2 ∷ 0 ∷ []) good sixteen (omega arith),
      load_behind c (2 ∷ 0 ∷ 6 ∷ []) good sixteen (omega arith),
    )
