-- What a validator says of a text.
use Rattle.std.specs.Prelude.{ℕ, List, [], Option, None, Some, codes, if◌then◌else◌}
use Rattle.std.specs.Char.{is_whitespace}
use Rattle.std.specs.List.{list_all, list_any}
use Rattle.std.specs.Str.{bytes_eq}
use Rattle.completers.specs.declared.validators.Validator.{Validator}
use Rattle.completers.specs.declared.validators.Validator.TheVariants.{Any, NonEmpty, Number, OneOf, Balanced}
use Rattle.completers.specs.declared.validators.Verdict.{Verdict}
use Rattle.completers.specs.declared.validators.Verdict.TheVariants.{Valid, Invalid}
use Rattle.completers.specs.Numbers.{is_number, number_fault}
use Rattle.completers.specs.Pairs.{bracket_fault}

-- the place of the fault, if there is one
abbrev pub fault_in : Validator → List ℕ → Option ℕ
fault_in Any text = None
fault_in NonEmpty text = if list_all is_whitespace text then Some 0 else None
fault_in Number text = if is_number text then None else Some (number_fault text)
fault_in (OneOf words) text = if list_any (λ word. bytes_eq word text) words then None else Some 0
fault_in Balanced text = bracket_fault text

-- what is said of a fault
abbrev pub message_of : Validator → List ℕ
message_of Any = []
message_of NonEmpty = codes "empty input"
message_of Number = codes "not a number"
message_of (OneOf words) = codes "not one of the words"
message_of Balanced = codes "bracket not balanced"

-- the verdict, by the place of the fault and the message
abbrev pub verdict_at : Option ℕ → List ℕ → Verdict
verdict_at None message = Valid
verdict_at (Some at) message = Invalid at message

-- the verdict on a text
abbrev pub verdict_of : Validator → List ℕ → Verdict
verdict_of validator text = verdict_at (fault_in validator text) (message_of validator)
