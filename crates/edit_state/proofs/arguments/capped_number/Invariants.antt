-- The number so far is that of the digits so far, or a million where that is greater.
use Rattle.std.proofs.Common.{◌≡◌, min, take}
use Rattle.edit_state.specs.Arguments.{number_of_digits}
use Rattle.edit_state.proofs.arguments.capped_number.Given as goal

abbrev pub invariant-loop-c : goal.invariant-loop-c
invariant-loop-c l = l.number ≡ min 1000000 (number_of_digits (take l.c-index l.digits))
