-- Demand 3, whole; and question 10 of a file without drops, exactly.
-- Assumes nothing.
use Rattle.std.proofs.Common.{ℕ, ◌≡◌, refl, sym, ap, ◌∙◌, true, List, ◌↔◌, eqb, pos}
use Rattle.layout.specs.declared.Table.{Table}
use Rattle.arith.proofs.Bools.{true_of}
use Rattle.layout.specs.Contents.{Contents, contents, table_of}
use Rattle.layout.specs.Answers.{refused}
use Rattle.layout.proofs.Questions.{first_yes}
use Rattle.limits.specs.Limits.{no_drops, value_good, shaped}
use Rattle.table.specs.Format.{Bytes, refused as no_table, loaded, parse_of, load_of, table_from}
use Rattle.table.proofs.Sound.{parse_sound}
use Rattle.table.proofs.Structs.{contents-table_of}
use Rattle.table.proofs.Theorems.{parsed_shaped, load_ten, loaded_accepted, refused_table}
use Rattle.rule.specs.Sums.{sample_at}
use Rattle.rule.specs.Pixels.{pixel_of}
use Rattle.rule.specs.Extremes.{Outside}
use Rattle.rule.proofs.Accurate.{accuracy}
use Rattle.rule.proofs.Peaks.{ten_exactly}
use Rattle.pixel.specs.Call.{pixel_asks, pixel_answer}
use Rattle.pixel.specs.Demand.{Demand3}

-- For every table that loading accepts, every scan that the one-pixel call accepts with it, and every place in that scan: for every
-- rectangle, full sum and cut sum scaled back are equal exactly when every bit dropped for it was zero, otherwise the full one is larger,
-- by at least 1 and at most the loss figure; weighted over all rectangles, full value less cut value is at least minus the sum of the loss
-- figures under negative weights, each times its weight's size, and at most the like sum under positive ones. The cut value is the number
-- whose division by 2^t the call answers.
pub demand_3 :
    (bs : List ℕ) (t : Table) → Bytes bs → load_of bs ≡ loaded (contents t)
    → (l : ℕ) (xs : List ℕ) (r c : ℕ) → (pixel_answer t l xs r c).kind ≡ 1
    → Demand3 t l xs r c
unfolding pixel_answer pixel_of
demand_3 bs t byte e l xs r c a =
    record {
      accuracy = accuracy t (sample_at l xs) (pos r) (pos c);
      answer = (first_yes (λ s. eqb s.kind 0) (pixel_asks t l xs r c) refused _ (λ n p. refl) (ap (λ k. eqb k 0) a)).1;
    }

-- J3: the same of the table that loading hands out for an accepted file
pub demand_3_file :
    (bs : List ℕ) (table : Contents) → Bytes bs → load_of bs ≡ loaded table
    → (l : ℕ) (xs : List ℕ) (r c : ℕ) → (pixel_answer (table_from (load_of bs)) l xs r c).kind ≡ 1
    → Demand3 (table_from (load_of bs)) l xs r c
demand_3_file bs table byte e =
    demand_3 bs (table_from (load_of bs)) byte (e ∙ ap loaded (sym (loaded_accepted bs table byte e).0))

-- J4: with the table that loading hands out for a refused file the call is refused by question 11
pub refused_pixel : (bs : List ℕ) (n p : ℕ) → load_of bs ≡ no_table n p
    → (l : ℕ) (xs : List ℕ) (r c : ℕ) → pixel_answer (table_from (load_of bs)) l xs r c ≡ refused 11 0
unfolding pixel_answer pixel_asks
refused_pixel bs n p e l xs r c = rw (refused_table bs n p e).0

-- M104-3: a file without drops that passes questions 1 to 9 gets 10 exactly when some scan of 31 by 31 samples has a centre pixel outside
-- the word
pub file_ten : (bs : List ℕ) (c : Contents) → Bytes bs → parse_of bs ≡ loaded c → no_drops c ≡ true → (load_of bs ≡ no_table 10 0) ↔ Outside (table_of c)
file_ten bs c byte e d =
    let same = contents-table_of c (parse_sound bs c e).most in
    let ten = load_ten bs c e in
    let out = ten_exactly (table_of c) (ap shaped same ∙ true_of (shaped c) (parsed_shaped bs c byte e)) (ap no_drops same ∙ d) in
    ((λ h. out.0 (ap value_good same ∙ ten.0 h)), λ o. ten.1 (sym (ap value_good same) ∙ out.1 o))
