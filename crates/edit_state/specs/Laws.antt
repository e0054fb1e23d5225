-- What the numbers of commands and the digits of an argument mean to one who types them.
use Rattle.std.specs.Prelude.{◌≡◌, ℕ, length, Some, IfSome}
use Rattle.edit_state.specs.declared.commands.Command.{Command}
use Rattle.edit_state.specs.declared.arguments.Arg.{Arg}
use Rattle.edit_state.specs.CommandNumbers.{number_of, command_of}
use Rattle.edit_state.specs.Arguments.{with_digit}

-- a command is found by its number, and by no other number
pub record NumbersReadBack : Type 0 where
  pub found : (command : Command) → command_of (number_of command) ≡ Some command
  pub by_no_other : (number : ℕ) → IfSome (command_of number) (λ command. number_of command ≡ number)

-- an argument of eight digits is as it was behind a ninth
abbrev pub NinthDigitIsLost : Type 0
NinthDigitIsLost = (arg : Arg) (digit : ℕ) → length arg.digits ≡ 8 → with_digit (Some arg) digit ≡ arg
