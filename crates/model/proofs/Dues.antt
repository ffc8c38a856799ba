-- What an arrival says and leaves, whether a row is due or not.
-- Assumes nothing.
use Prim.Native.Nat.{ℕ, ◌-◌, ◌≤◌, ◌<◌}
use native.Mathlib.Omega.{arith}
use mathlib.Core.Path.{◌≡◌, refl, ap}
use mathlib.Core.Bool.{Bool, true, false, not, cond}
use mathlib.Core.List.{List, [], ◌∷◌, ◌++◌}
use lib.Dec.{T, ltb, nltb→le}
use lib.IntN.{ℤ, pos}
use lib.ListN.{length, drop}
use Rattle.arith.specs.Tab.{tab}
use Rattle.arith.proofs.Tabs.{tab_cong}
use Rattle.layout.specs.Answers.{Said, accepted, waiting, due_at, Left, left}
use Rattle.layout.specs.Sequences.{Reply, reply, reply_of}
use Rattle.model.specs.Rows.{good_rows}
use Rattle.model.specs.Machines.{Filter, Machine, due_left}
use Rattle.model.specs.Wholes.{Settled, due_reply}

-- what arrival a says, and what it leaves in the output
abbrev pub says_due : Filter → (a : ℕ) → Said
says_due f a = due_at a f.delay

abbrev pub leaves_due : Filter → (a : ℕ) → (rows : List (List ℕ)) → (out : List ℤ) → List ℤ
leaves_due f a rows out = cond (ltb a f.delay) out (tab f.width (f.pixel rows (a - f.delay)) ++ drop f.width out)

module _ (f : Filter) (a : ℕ) (rows : List (List ℕ)) where
  pub due_parts : (out : List ℤ) (m : Machine) → due_left f a rows out m ≡ left (says_due f a) m (leaves_due f a rows out)
  unfolding due_left
  due_parts out m = go (ltb a f.delay) (accepted (pos (a - f.delay) ∷ [])) (tab f.width (f.pixel rows (a - f.delay)) ++ drop f.width out)
    where
      go : (b : Bool) (s : Said) (o : List ℤ) → cond b (left waiting m out) (left s m o) ≡ left (cond b waiting s) m (cond b out o)
      go true s o = refl
      go false s o = refl

  -- it leaves the machine that it is to leave
  pub due_state : (out : List ℤ) (m : Machine) → (due_left f a rows out m).state ≡ m
  due_state out m = ap (λ x. x.state) (due_parts out m)

  -- its reply is the one that is due on these rows
  pub due_reply_lem : (outs : ℕ → List ℤ) (m : Machine) → reply_of (due_left f a rows (outs a) m) ≡ due_reply f rows outs a
  unfolding due_left due_reply
  due_reply_lem outs m =
      go (ltb a f.delay) (left waiting m (outs a))
      (left (accepted (pos (a - f.delay) ∷ [])) m (tab f.width (f.pixel rows (a - f.delay)) ++ drop f.width (outs a)))
    where
      go : (b : Bool) (x y : Left Machine) → reply_of (cond b x y) ≡ cond b (reply_of x) (reply_of y)
      go true x y = refl
      go false x y = refl

-- rows that come later do not change it
pub due_later : (f : Filter) → Settled f → (rows more : List (List ℕ)) → T (good_rows f.width f.bits rows)
    → (outs : ℕ → List ℤ) (a : ℕ) → a < length rows → due_reply f rows outs a ≡ due_reply f (rows ++ more) outs a
unfolding due_reply
due_later f s rows more h outs a p = go (ltb a f.delay) (nltb→le a f.delay)
  where
    due : List (List ℕ) → Reply
    due rs = reply (accepted (pos (a - f.delay) ∷ [])) (tab f.width (f.pixel rs (a - f.delay)) ++ drop f.width (outs a))

    go : (b : Bool) → (T (not b) → f.delay ≤ a) → cond b (reply waiting (outs a)) (due rows) ≡ cond b (reply waiting (outs a)) (due (rows ++ more))
    go true d = refl
    go false d =
        let e = d tt in
        ap (λ ps. reply (accepted (pos (a - f.delay) ∷ [])) (ps ++ drop f.width (outs a)))
        (tab_cong f.width (λ c i. s.later rows more h (a - f.delay) c (omega arith)))
