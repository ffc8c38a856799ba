-- The machine through a whole scan, from its start to its end.
-- Assumes nothing.
use Prim.Native.Nat.{ℕ, zero, suc, ◌+◌, ◌-◌, ◌^◌, ◌≤◌, ◌<◌}
use native.Mathlib.Omega.{arith}
use mathlib.Core.Path.{◌≡◌, refl, sym, ap, ap₂, ◌∙◌}
use mathlib.Core.Bool.{true, false}
use mathlib.Core.List.{List, [], ◌∷◌, ◌++◌, append_assoc, append-nil}
use lib.Dec.{T}
use lib.IntN.{ℤ}
use lib.ListN.{length, length-append}
use borrow.Author.Tests.{le-leb, lt-leb, lt-ltb, eq-eqb}
use Rattle.arith.specs.All.{all}
use Rattle.arith.proofs.Bools.{true_of}
use Rattle.layout.specs.Answers.{accepted, done, left}
use Rattle.layout.specs.Sequences.{Reply, reply, reply_of, replies, ended}
use Rattle.rule.specs.Questions.{sample_good}
use Rattle.model.specs.Rows.{good_rows}
use Rattle.model.specs.Machines.{Filter, Call, row_call, step_call, Machine, machine, opened}
use Rattle.model.specs.Machines.{due_left, machine_asks, machine_row, machine_close, machine_step, answers}
use Rattle.model.specs.Wholes.{Settled, row_calls, step_calls, whole_calls, due_reply, due_replies, whole_replies}
use Rattle.model.proofs.Rows.{Good, good, good_append, good_first}
use Rattle.model.proofs.Dues.{due_state, due_reply_lem, due_later}

-- open, and closed, with these rows
abbrev having : List (List ℕ) → Machine
having rows = machine rows 0 false

abbrev closed_with : List (List ℕ) → (steps : ℕ) → Machine
closed_with rows steps = machine rows steps true

-- calls answered: their replies, and the machine after them
record Ran (f : Filter) (m : Machine) (cs : List Call) (rs : List Reply) (m' : Machine) : Type 0 where
  ran : (rest : List Call) → replies (answers f) m (cs ++ rest) ≡ rs ++ replies (answers f) m' rest
  ends : (rest : List Call) → ended (answers f) m (cs ++ rest) ≡ ended (answers f) m' rest

-- none, and one call before others
ran_none : (f : Filter) {m m' : Machine} → m ≡ m' → Ran f m [] [] m'
ran_none f e = record { ran = λ rest. ap (λ m. replies (answers f) m rest) e; ends = λ rest. ap (λ m. ended (answers f) m rest) e }

ran_one : (f : Filter) (m : Machine) (c : Call) {m' m'' : Machine} {cs : List Call} {r : Reply} {rs : List Reply}
    → reply_of (answers f m c) ≡ r → (answers f m c).state ≡ m' → Ran f m' cs rs m'' → Ran f m (c ∷ cs) (r ∷ rs) m''
unfolding replies ended
ran_one f m c {m'} {m''} {cs} e k next =
    record {
      ran = λ rest. ap₂ ◌∷◌ e (ap (λ w. replies (answers f) w (cs ++ rest)) k ∙ next.ran rest);
      ends = λ rest. ap (λ w. ended (answers f) w (cs ++ rest)) k ∙ next.ends rest;
    }

module _ (f : Filter) (s : Settled f) (outs : ℕ → List ℤ) (long : (a : ℕ) → f.width ≤ length (outs a)) where
  -- a good row is taken
  row_taken : (taken rows : List (List ℕ)) (row : List ℕ) (out : ℕ) → length taken < 65535 → Good f.width f.bits row rows
      → machine_row f (having taken) row (outs out) ≡ due_left f (length taken) (taken ++ (row ∷ [])) (outs out) (having (taken ++ (row ∷ [])))
  unfolding machine_row machine_asks
  row_taken taken rows row out few q =
      rw (
        lt-ltb (length taken) 65535 few,
        eq-eqb (length row) f.width q.long,
        le-leb f.width (length (outs out)) (long out),
        true_of (all (length row) (sample_good (2 ^ f.bits - 1) row)) q.small,
      )
      refl

  -- rows after those taken, up to all of them
  rows_run : (taken rows whole : List (List ℕ)) (a : ℕ) → length taken ≡ a → taken ++ rows ≡ whole
      → T (good_rows f.width f.bits taken) → T (good_rows f.width f.bits rows) → length taken + length rows ≤ 65535
      → Ran f (having taken) (row_calls outs a rows) (due_replies f whole outs a (length rows)) (having whole)
  unfolding row_calls due_replies answers
  rows_run taken [] whole a n e h g few = ran_none f (ap having (sym (append-nil taken) ∙ e))
  rows_run taken (row ∷ rows) whole a n e h g few =
      let q = good f.width f.bits row rows g in
      let more = taken ++ (row ∷ []) in
      let k = good_append f.width f.bits taken (row ∷ []) h (good_first f.width f.bits row rows q) in
      let i = length-append taken (row ∷ []) in
      let j = append_assoc taken (row ∷ []) rows ∙ e in
      let x = row_taken taken rows row a (omega arith) q ∙ ap (λ i. due_left f i more (outs a) (having more)) n in
      ran_one f (having taken) (row_call row (outs a))
      (ap reply_of x ∙ due_reply_lem f a more outs (having more) ∙ due_later f s more rows k outs a (omega arith) ∙ ap (λ rs. due_reply f rs outs a) j)
      (ap (λ v. v.state) x ∙ due_state f a more (outs a) (having more))
      (rows_run more rows whole (suc a) (omega arith) j k q.rest (omega arith))

  module _ (rows : List (List ℕ)) where
    step_taken : (n out : ℕ) → n < f.delay
        → machine_step f (closed_with rows n) (outs out) ≡ due_left f (length rows + n) rows (outs out) (closed_with rows (n + 1))
    unfolding machine_step
    step_taken n out p = rw (lt-leb f.delay n p, le-leb f.width (length (outs out)) (long out)) refl

    -- closing steps after n of them, up to e
    steps_run : (n i e a : ℕ) → length rows + n ≡ a → n + i ≡ e → e ≤ f.delay
        → Ran f (closed_with rows n) (step_calls outs a i) (due_replies f rows outs a i) (closed_with rows e)
    unfolding step_calls due_replies answers
    steps_run n zero e a p q h = ran_none f (ap (closed_with rows) (omega arith))
    steps_run n (suc i) e a p q h =
        let x = step_taken n a (omega arith) ∙ ap (λ i. due_left f i rows (outs a) (closed_with rows (n + 1))) p in
        ran_one f (closed_with rows n) (step_call (outs a)) (ap reply_of x ∙ due_reply_lem f a rows outs (closed_with rows (n + 1)))
        (ap (λ v. v.state) x ∙ due_state f a rows (outs a) (closed_with rows (n + 1)))
        (steps_run (n + 1) i e (suc a) (omega arith) (omega arith) h)

    closing : Ran f (closed_with rows 0) (step_calls outs (length rows) f.delay) (due_replies f rows outs (length rows) f.delay)
        (closed_with rows f.delay)
    closing = steps_run 0 f.delay f.delay (length rows) (omega arith) (omega arith) (omega arith)

    done_again : (out : List ℤ) → machine_step f (closed_with rows f.delay) out ≡ left done (closed_with rows f.delay) out
    unfolding machine_step
    done_again out = rw (le-leb f.delay f.delay (omega arith)) refl

    module _ (h : T (good_rows f.width f.bits rows)) (few : length rows ≤ 65535) where
      arriving : Ran f opened (row_calls outs 0 rows) (due_replies f rows outs 0 (length rows)) (having rows)
      unfolding good_rows
      arriving = rows_run [] rows rows 0 refl refl tt h (omega arith)

      -- Q1 to Q3. For every settled filter, at most 65,535 rows of L samples of b bits or dead, and outputs of at least L places: every row, the
      -- closing and every closing step is answered as it is due: waiting before arrival D, and row a - D at each arrival a from then on, each pixel
      -- by the pixel rule on the whole scan; after D steps the answer is done.
      pub machine_whole : replies (answers f) opened (whole_calls f outs rows) ≡ whole_replies f outs rows
      unfolding whole_calls whole_replies replies answers machine_close
      machine_whole =
          arriving.ran _
          ∙ ap (λ rs. due_replies f rows outs 0 (length rows) ++ (reply (accepted []) [] ∷ rs))
          (closing.ran _ ∙ ap (λ x. due_replies f rows outs (length rows) f.delay ++ (reply_of x ∷ [])) (done_again _))

      -- it has the rows, is closed and has done D steps
      pub machine_ends : ended (answers f) opened (whole_calls f outs rows) ≡ machine rows f.delay true
      unfolding whole_calls ended answers machine_close
      machine_ends = arriving.ends _ ∙ closing.ends _ ∙ ap (λ x. x.state) (done_again _)
