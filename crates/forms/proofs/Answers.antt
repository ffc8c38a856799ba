-- A fault, the kind of a line, and what asking after a line answers are known by what they say.
-- Assumes nothing.
use Rattle.std.proofs.Common.{◌≡◌, ◌-◌, ℕ, [], ◌∷◌, get_or, Option, Some, None, Result, Ok, Err, refl, sym, ap, ap₂, ◌∙◌, arith}
use Rattle.forms.specs.declared.kinds.Kind.{Kind}
use Rattle.forms.specs.declared.kinds.Kind.TheVariants.{Bits, Drops, Shift, Word, Rectangle}
use Rattle.forms.specs.declared.faults.TextFault.{TextFault}
use Rattle.forms.specs.declared.faults.TextFault.TheVariants.{
  Unknown,
  BitsForm,
  DropsForm,
  ShiftForm,
  WordForm,
  RectangleForm,
  Weight,
  Twice,
  NoBits,
  NoDrops,
  NoShift,
  NoWord,
  TooLong,
}
use Rattle.forms.specs.declared.faults.TextRefusal.{TextRefusal}
use Rattle.forms.specs.Faults.{fault_number, text_said}
use Rattle.forms.specs.Forms.{kind_said}

-- the fault of a number
abbrev pub fault_of : ℕ → TextFault
fault_of n =
    get_or (Unknown ∷ BitsForm ∷ DropsForm ∷ ShiftForm ∷ WordForm ∷ RectangleForm ∷ Weight ∷ Twice ∷ NoBits ∷ NoDrops ∷ NoShift ∷ NoWord
    ∷ TooLong ∷ []) (n - 101) Unknown

back : (f : TextFault) → fault_of (fault_number f) ≡ f
back Unknown = refl
back BitsForm = refl
back DropsForm = refl
back ShiftForm = refl
back WordForm = refl
back RectangleForm = refl
back Weight = refl
back Twice = refl
back NoBits = refl
back NoDrops = refl
back NoShift = refl
back NoWord = refl
back TooLong = refl

-- a fault is known by its number
pub fault_injective : (f g : TextFault) → fault_number f ≡ fault_number g → f ≡ g
fault_injective f g e = sym (back f) ∙ ap fault_of e ∙ back g

-- the kind of a number, or none
abbrev pub kind_back : ℕ → Option Kind
kind_back n = get_or (Some Bits ∷ Some Drops ∷ Some Shift ∷ Some Word ∷ Some Rectangle ∷ []) n None

kind_same : (o : Option Kind) → kind_back (kind_said o) ≡ o
kind_same None = refl
kind_same (Some Bits) = refl
kind_same (Some Drops) = refl
kind_same (Some Shift) = refl
kind_same (Some Word) = refl
kind_same (Some Rectangle) = refl

-- the kind of a line, or that it has none, is known by its number
pub kind_injective : (o p : Option Kind) → kind_said o ≡ kind_said p → o ≡ p
kind_injective o p e = sym (kind_same o) ∙ ap kind_back e ∙ kind_same p

-- a refusal is known by its number and its place
pub text_refusal_injective : (r s : TextRefusal) → fault_number r.fault ≡ fault_number s.fault → r.place ≡ s.place → r ≡ s
text_refusal_injective r s e p = ap₂ (λ f n. record { fault = f; place = n }) (fault_injective r.fault s.fault e) p

pub text_injective : (v w : Result (Unit {0}) TextRefusal) → text_said v ≡ text_said w → v ≡ w
text_injective (Ok x) (Ok y) e = refl
text_injective (Ok x) (Err r) e = absurd (let z = ap (λ s. s.kind) e in omega arith)
text_injective (Err r) (Ok y) e = absurd (let z = ap (λ s. s.kind) e in omega arith)
text_injective (Err r) (Err s) e = ap Err (text_refusal_injective r s (ap (λ x. x.number) e) (ap (λ x. x.place) e))
