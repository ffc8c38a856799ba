-- The numbers of the text's own faults, and what asking after one comes to.
-- Assumes nothing.
use Rattle.std.specs.Prelude.{ℕ, Bool, [], Result, Ok, Err, if◌then◌else◌}
use Rattle.layout.specs.Answers.{Said, refused, accepted}
use Rattle.forms.specs.declared.faults.TextFault.{TextFault}
use Rattle.forms.specs.declared.faults.TextFault.TheVariants.{
  Unknown,
  BitsForm,
  DropsForm,
  ShiftForm,
  WordForm,
  RectangleForm,
  Weight,
  Twice,
  NoBits,
  NoDrops,
  NoShift,
  NoWord,
  TooLong,
}
use Rattle.forms.specs.declared.faults.TextRefusal.{TextRefusal}

-- the number of a fault
abbrev pub fault_number : TextFault → ℕ
fault_number Unknown = 101
fault_number BitsForm = 102
fault_number DropsForm = 103
fault_number ShiftForm = 104
fault_number WordForm = 105
fault_number RectangleForm = 106
fault_number Weight = 107
fault_number Twice = 108
fault_number NoBits = 109
fault_number NoDrops = 110
fault_number NoShift = 111
fault_number NoWord = 112
fault_number TooLong = 113

-- one question asked: the call goes on, or ends with a fault of the line at this place
abbrev pub fault_asked : TextFault → (holds : Bool) → (place : ℕ) → Result (Unit {0}) TextRefusal
fault_asked fault holds place = if holds then Ok tt else Err (record { fault = fault; place = place })

-- what an answer says
abbrev pub text_said : Result (Unit {0}) TextRefusal → Said
text_said (Ok x) = accepted []
text_said (Err r) = refused (fault_number r.fault) r.place
