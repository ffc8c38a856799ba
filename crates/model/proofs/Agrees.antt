-- An engine beside the machine: what one call of it has to show.
-- Assumes nothing.
use Prim.Native.Nat.{ℕ, ◌+◌, ◌<◌}
use mathlib.Core.Path.{◌≡◌, refl, sym, ap, ap₂, ◌∙◌, subst}
use mathlib.Core.Bool.{Bool, true, false, not, cond}
use mathlib.Core.List.{List, [], ◌∷◌, ◌++◌}
use lib.Dec.{T, leb, nleb→lt}
use lib.IntN.{ℤ}
use lib.ListN.{length}
use Rattle.layout.specs.Answers.{refused, accepted, done, asks, first_no, Left, left}
use Rattle.layout.specs.Sequences.{reply, reply_of}
use Rattle.layout.proofs.Questions.{AllYes, same_questions}
use Rattle.model.specs.Machines.{Filter, Machine, with_row, shut_down, with_step, due_left, machine_asks, machine_row, machine_close, machine_step}
use Rattle.model.proofs.Dues.{says_due, leaves_due, due_parts, due_state}

-- one call of an engine and of its machine: answered alike, and the relation holds after it
abbrev pub Agree : {S M : Type 0} → (Follows : S → M → Type 0) → Left S → Left M → Type 0
Agree Follows x y = (reply_of x ≡ reply_of y) × Follows x.state y.state

module _ {S : Type 0} (Follows : S → Machine → Type 0) (f : Filter) where
  -- an arrival that says and leaves what is due agrees with the machine's, if the relation holds after them
  pub due_agrees : (a : ℕ) (rows : List (List ℕ)) (out : List ℤ) (x : Left S) (m : Machine)
      → x.said ≡ says_due f a → x.out ≡ leaves_due f a rows out → Follows x.state m → Agree Follows x (due_left f a rows out m)
  due_agrees a rows out x m e o k =
      (ap₂ reply e o ∙ sym (ap reply_of (due_parts f a rows out m)), subst (Follows x.state) (sym (due_state f a rows out m)) k)

  -- a state that follows the machine
  module _ (s : S) (m : Machine) (r : Follows s m) where
    -- a refused call leaves both as they were
    abbrev refuses : List ℤ → (n p : ℕ) → Left S
    refuses out n p = left (refused n p) s out

    abbrev refuses' : List ℤ → (n p : ℕ) → Left Machine
    refuses' out n p = left (refused n p) m out

    -- a row asked the machine's questions, if it agrees once they are all answered yes
    pub row_agrees : (row : List ℕ) (out : List ℤ) (x : Left S)
        → (AllYes (machine_asks f m row (length out)) → Agree Follows x (due_left f (length m.rows) (m.rows ++ (row ∷ [])) out (with_row m row)))
        → Agree Follows (first_no (machine_asks f m row (length out)) (λ n p. left (refused n p) s out) x) (machine_row f m row out)
    unfolding machine_row
    row_agrees row out x h = same_questions (Agree Follows) (machine_asks f m row (length out)) (refuses out) x (refuses' out) _ (λ n p. (refl, r)) h

    -- closing, if the relation holds after it
    pub close_agrees : (after : S) → Follows after (shut_down m)
        → Agree Follows (first_no (asks 15 (not m.closed) ∷ []) (λ n p. left (refused n p) s []) (left (accepted []) after [])) (machine_close m)
    unfolding machine_close
    close_agrees after k =
        same_questions (Agree Follows) (asks 15 (not m.closed) ∷ []) (refuses []) (left (accepted []) after []) (refuses' []) _ (λ n p. (refl, r))
        (λ y. (refl, k))

    -- a closing step, if it agrees where the machine is closed and has a step left
    pub step_agrees : (out : List ℤ) (x : Left S)
        → (m.closed ≡ true → m.steps < f.delay → Agree Follows x (due_left f (length m.rows + m.steps) m.rows out (with_step m)))
        → Agree Follows
        (first_no (asks 15 m.closed ∷ []) (λ n p. left (refused n p) s out)
        (cond (leb f.delay m.steps) (left done s out)
        (first_no (asks 13 (leb f.width (length out)) ∷ []) (λ n p. left (refused n p) s out) x)))
        (machine_step f m out)
    unfolding machine_step
    step_agrees out x h =
        same_questions (Agree Follows) (asks 15 m.closed ∷ []) (refuses out) _ (refuses' out) _ (λ n p. (refl, r))
        (λ y. go y.0 (leb f.delay m.steps) (nleb→lt f.delay m.steps))
      where
        due : Left Machine
        due = due_left f (length m.rows + m.steps) m.rows out (with_step m)

        go : m.closed ≡ true → (b : Bool) → (T (not b) → m.steps < f.delay)
            → Agree Follows (cond b (left done s out) (first_no (asks 13 (leb f.width (length out)) ∷ []) (refuses out) x))
            (cond b (left done m out) (first_no (asks 13 (leb f.width (length out)) ∷ []) (refuses' out) due))
        go c true l = (refl, r)
        go c false l =
            same_questions (Agree Follows) (asks 13 (leb f.width (length out)) ∷ []) (refuses out) x (refuses' out) due (λ n p. (refl, r))
            (λ y. h c (l tt))
