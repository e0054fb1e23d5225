-- The argument of eight digits stays, and so does the state.
use Rattle.std.proofs.Common.{◌≡◌, Bool, true, false, Option, refl, ap}
use Rattle.std.specs.Prelude.{if◌then◌else◌}
use Rattle.std.specs.Char.{is_ascii_digit}
use Rattle.edit_state.specs.declared.states.EditState.{EditState}
use Rattle.edit_state.specs.declared.arguments.Arg.{Arg}
use Rattle.edit_cmds.proofs.Digits.{full_stays}
use Rattle.edit_cmds.proofs.laws.ninth_digit_changes_nothing.Goals as goal

same_if : (b : Bool) (s : EditState) (arg : Option Arg) → arg ≡ s.arg → (if b then record s { arg = arg } else s) ≡ s
same_if true s arg same = ap (λ (a : Option Arg). let new : EditState = record s { arg = a } in new) same
same_if false s arg same = refl

pub returns : goal.returns
returns c = λ s digit full. same_if (is_ascii_digit digit) s _ (full_stays s.arg digit full)
