-- The rows of Emacs keys that build the argument.
use Rattle.std.specs.Prelude.{◌==◌, length, Bool, true, false, [], Option, None, Some, if◌then◌else◌}
use Rattle.std.specs.Char.{is_ascii_digit}
use Rattle.key_names.specs.declared.key.Key.{Key}
use Rattle.key_names.specs.declared.key.Key.TheVariants.{Char}
use Rattle.edit_state.specs.declared.states.EditState.{EditState}
use Rattle.edit_state.specs.declared.arguments.Arg.{Arg}
use Rattle.edit_state.specs.Arguments.{with_digit}

-- a digit is added; any other key changes nothing
abbrev pub digit_argument : Key → EditState → EditState
digit_argument (Char c) s = if is_ascii_digit c then record s { arg = Some (with_digit s.arg c) } else s
digit_argument _ s = s

abbrev pub negated : Option Arg → Option Arg
negated None = Some (record { negative = true; digits = [] })
negated (Some arg) = Some arg

-- the argument is a sign; one that is held stays
abbrev pub negative_argument : EditState → EditState
negative_argument s = record s { arg = negated s.arg }

-- eight digits are held
abbrev pub is_full : Option Arg → Bool
is_full None = false
is_full (Some arg) = length arg.digits == 8
