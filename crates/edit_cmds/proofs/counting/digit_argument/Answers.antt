-- A ninth digit changes nothing.
use Rattle.std.proofs.Common.{◌≡◌, Option, Some, ap, sym, ◌∙◌, arith}
use Rattle.edit_state.specs.declared.states.EditState.{EditState}
use Rattle.edit_state.specs.declared.states.Done.TheVariants.{Same, Bell}
use Rattle.edit_state.specs.declared.arguments.Arg.{Arg}
use Rattle.edit_cmds.proofs.Digits.{full_stays}
use Rattle.edit_cmds.proofs.counting.digit_argument.Goals as goal

same_is_no_bell : Same ≡ Bell → ⊥
same_is_no_bell e = grind arith

pub returns-then-full-clause-done : goal.returns-then-full-clause-done
returns-then-full-clause-done c =
    let s = c.args.state.now in
    let stays = ap (λ (a : Arg). Some a) c.in_ok-with_digit-in-Char.ensures ∙ full_stays s.arg _ (sym c.is_full-full.ensures ∙ c.if-full.true) in
    record {
      bell = (same_is_no_bell, λ rings. absurd rings);
      tells = ap (λ (a : Option Arg). let new : EditState = record s { arg = a } in new) stays;
    }
