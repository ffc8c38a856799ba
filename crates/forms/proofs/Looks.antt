-- The questions on a line, by their answers.
-- Assumes nothing.
use Rattle.std.proofs.Common.{◌≡◌, ℕ, ◌+◌, ◌<◌, Bool, true, false, not, eqb, List, [], length, refl, sym, ap, arith, Ok, Err, lt-ltb}
use denote.Enum.Bare.{sameb}
use Rattle.layout.specs.Answers.{refused, accepted, verdict}
use Rattle.forms.specs.contracts.kinds.Kind.{the_type}
use Rattle.forms.specs.declared.kinds.Kind.{Kind}
use Rattle.forms.specs.declared.kinds.Kind.TheVariants.{Bits, Drops, Shift, Word, Rectangle}
use Rattle.forms.specs.declared.faults.TextFault.{TextFault}
use Rattle.forms.specs.declared.faults.TextFault.TheVariants.{Weight}
use Rattle.forms.specs.declared.faults.TextRefusal.{TextRefusal}
use Rattle.forms.specs.Faults.{fault_number, fault_asked, text_said}
use Rattle.forms.specs.Forms.{kind_of, kind_number, form, fits, weight_good, line_asks}

-- ---- one question

module _ (fault : TextFault) (holds : Bool) (place : ℕ) where
  pub asked_no : (r : TextRefusal) → Err r ≡ fault_asked fault holds place → (holds ≡ false) × (text_said (Err r)
      ≡ refused (fault_number fault) place)
  asked_no r e = go holds refl e
    where
      go : (h : Bool) → holds ≡ h → Err r ≡ fault_asked fault h place → (holds ≡ false) × (text_said (Err r) ≡ refused (fault_number fault) place)
      go true t e = absurd (cc)
      go false t e = (t, ap text_said e)

  pub asked_yes : Ok tt ≡ fault_asked fault holds place → holds ≡ true
  asked_yes e = go holds refl e
    where
      go : (h : Bool) → holds ≡ h → Ok tt ≡ fault_asked fault h place → holds ≡ true
      go true t e = t
      go false t e = absurd (cc)

-- ---- a kind

pub kind_below : (k : Kind) → kind_number k < 5
kind_below Bits = omega arith
kind_below Drops = omega arith
kind_below Shift = omega arith
kind_below Word = omega arith
kind_below Rectangle = omega arith

pub kind_weight : (k : Kind) (r : Bool) → r ≡ not (sameb the_type k Rectangle) → eqb (kind_number k) 4 ≡ not r
kind_weight Bits r e = sym (ap not e)
kind_weight Drops r e = sym (ap not e)
kind_weight Shift r e = sym (ap not e)
kind_weight Word r e = sym (ap not e)
kind_weight Rectangle r e = sym (ap not e)

-- ---- a line

module _ (place : ℕ) (ws : List (List ℕ)) where
  pub look_blank : eqb (length ws) 0 ≡ true → accepted [] ≡ verdict (line_asks place ws)
  unfolding line_asks
  look_blank e = rw e refl

  module _ (some : eqb (length ws) 0 ≡ false) where
    pub look_unknown : 5 ≡ kind_of ws → refused 101 place ≡ verdict (line_asks place ws)
    unfolding line_asks
    look_unknown is = rw (some, sym is) refl

    module _ (k : Kind) (is : kind_number k ≡ kind_of ws) where
      pub look_form : (n : ℕ) → n ≡ 102 + kind_number k → fits (form (kind_number k)) ws ≡ false → refused n place ≡ verdict (line_asks place ws)
      unfolding line_asks
      look_form n e f = rw (some, sym is, lt-ltb _ _ (kind_below k), f) (ap (λ m. refused m place) e)

      pub look_good : fits (form (kind_number k)) ws ≡ true → text_said (fault_asked Weight (weight_good ws) place) ≡ verdict (line_asks place ws)
      unfolding line_asks
      look_good f = go (weight_good ws) refl
        where
          go : (b : Bool) → weight_good ws ≡ b → text_said (fault_asked Weight b place) ≡ verdict (line_asks place ws)
          go true e = rw (some, sym is, lt-ltb _ _ (kind_below k), f, e) refl
          go false e = rw (some, sym is, lt-ltb _ _ (kind_below k), f, e) refl
