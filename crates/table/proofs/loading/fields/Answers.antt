-- The fields are read one after the other.
use Rattle.std.proofs.Common.{◌≡◌, ℕ, suc, ◌+◌, ◌-◌, ◌<◌, List, [], ◌∷◌, length, drop, refl, sym, ap, ◌∙◌, cond, leb, arith, rules, Err, false-eqb}
use Rattle.std.proofs.lemmas.List.{length-append}
use Rattle.arith.specs.Tab.{tab}
use Rattle.layout.specs.declared.asking.Refusal.{Refusal}
use Rattle.layout.specs.declared.asking.Question.TheVariants.{Rectangle}
use Rattle.layout.specs.declared.Table.{Table}
use Rattle.layout.specs.Contents.{contents, table_of}
use Rattle.layout.specs.Answers.{no_said, accepted, verdict}
use Rattle.layout.proofs.Questions.{on_verdict}
use Rattle.limits.proofs.Asked.{asked_yes}
use Rattle.limits.proofs.Values.{slots}
use Rattle.table.proofs.Asked.{asked_no}
use Rattle.table.specs.Format.{Outcome, loaded, refused, plus, rect_of, field_asks, handed, handed_out, given, fields_of}
use Rattle.table.proofs.Fields.{next, fields_end, fields_step}
use Rattle.table.proofs.Structs.{contents-table_of, placed, placed_is}
use Rattle.table.proofs.loading.fields.Goals as goal

-- a field that is refused ends it
ends : (left : ℕ) (bs : List ℕ) (t : Table) (e : Refusal) (o : Outcome) → 0 < length bs → no_said e ≡ verdict (field_asks left bs)
    → fields_of left bs (contents t) ≡ o → given (Err e) ≡ handed_out o
ends left bs t e o more said so_far =
    sym (ap handed_out (sym so_far ∙ fields_step left bs (contents t) more ∙ ap (λ s. on_verdict s refused (next left bs (contents t))) (sym said)))

-- one that is read goes into the first free slot
module _ (t : Table) (bs : List ℕ) (made : t ≡ table_of (contents t)) (free : t.count < 16) where
  placed_made : placed t (rect_of bs) ≡ table_of (plus (contents t) (rect_of bs))
  placed_made =
      ap (λ x. placed x (rect_of bs)) made ∙ placed_is (contents t) (rect_of bs) (let e = slots t in omega (arith, free))

  placed_contents : contents (placed t (rect_of bs)) ≡ plus (contents t) (rect_of bs)
  placed_contents =
      ap contents placed_made
      ∙ contents-table_of (plus (contents t) (rect_of bs))
      (let e = slots t in let l = length-append (contents t).rects (rect_of bs ∷ []) in omega (arith, free))

  goes_on : (left n : ℕ) (o : Outcome) → left ≡ suc n → 0 < length bs → accepted [] ≡ verdict (field_asks left bs)
      → fields_of left bs (contents t) ≡ o → fields_of n (drop 9 bs) (contents (placed t (rect_of bs))) ≡ o
  goes_on left n o is more said so_far =
      ap (fields_of n (drop 9 bs)) placed_contents
      ∙ sym (fields_step left bs (contents t) more
      ∙ ap (λ s. on_verdict s refused (next left bs (contents t))) (sym said)
      ∙ ap (λ k. next k bs (contents t)) is)
      ∙ so_far

-- the end of the file
ended : (left : ℕ) (bs : List ℕ) (t : Table) (o : Outcome) → length bs ≡ 0 → fields_of left bs (contents t) ≡ o
    → cond (leb 1 t.count) (loaded (contents t)) (refused 9 0) ≡ o
ended left bs t o z so_far = ap (λ n. cond (leb 1 n) (loaded (contents t)) (refused 9 0)) (sym (slots t)) ∙ sym (fields_end left bs (contents t) z) ∙ so_far

pub loop-rest-init : goal.loop-rest-init
unfolding tab
loop-rest-init c = rw c.bare-table.ensures (record { made = refl; few = omega arith; same = refl })

pub returns-in_err-rect : goal.returns-in_err-rect
returns-in_err-rect c =
    let more : 0 < length c.loop-rest.rest.now = omega (arith, false-eqb _ 0 c.loop-rest-test.ensures) in
    let h = ends _ _ _ _ _ more c.in_err-rect.ensures.said c.loop-rest.invariant.same in
    search (rules, h)

pub loop-rest-preserved : goal.loop-rest-preserved
loop-rest-preserved c =
    let t = c.loop-rest.table in
    let bs = c.loop-rest.rest.now in
    let i = c.loop-rest.invariant in
    let r = c.in_ok-rect.ensures in
    let more : 0 < length bs = omega (arith, false-eqb _ 0 c.loop-rest-test.ensures) in
    let free : t.count < 16 = omega (arith, r.room) in
    let left : 16 - t.count ≡ suc (16 - (t.count + 1)) = omega (arith, free) in
    rw (r.value, c.split_at.ensures.back)
    (record {
      made = placed_made t bs i.made free ∙ ap table_of (sym (placed_contents t bs i.made free));
      few = omega (arith, free);
      same = goes_on t bs i.made free (16 - t.count) (16 - (t.count + 1)) _ left more r.said i.same;
    })

pub returns-in_err-unless : goal.returns-in_err-unless
returns-in_err-unless c =
    let h = ended _ _ c.loop-rest.table _ (search rules) c.loop-rest.invariant.same in
    let n = asked_no Rectangle _ _ (sym c.unless.ensures ∙ c.in_err-unless.was) in
    let o = sym (ap (λ b. cond b (loaded (contents c.loop-rest.table)) (refused 9 0)) n.0) ∙ h in
    let g = ap (λ x. given (Err x)) n.1 ∙ ap handed_out o in
    search (rules, g)

pub returns : goal.returns
returns c =
    let h = ended _ _ c.loop-rest.table _ (search rules) c.loop-rest.invariant.same in
    let y = asked_yes Rectangle _ _ (sym c.unless.ensures ∙ c.in_ok-unless.was) in
    ap (handed (accepted [])) c.loop-rest.invariant.made ∙ ap handed_out (sym (ap (λ b. cond b (loaded (contents c.loop-rest.table)) (refused 9 0)) y) ∙ h)
