-- The steps that are left lead from here to where all of them lead from the present choice.
use Rattle.std.proofs.Common.{◌≡◌, ◌≤◌, ◌<◌, length, true, false}
use Rattle.std.specs.Option.{ForSome}
use Rattle.edit_state.specs.MenuMoves.{choice_after, is_stopped, can_step, is_too_long}
use Rattle.edit_state.proofs.menu_moves.way_from.Given as goal

abbrev pub invariant-loop-left : goal.invariant-loop-left
invariant-loop-left l = record {
  which : choice_after l.forward l.menu l.left l.which ≡ choice_after l.forward l.menu l.steps l.menu.chosen;
  stopped : is_stopped l.forward l.menu l.left l.which ≡ is_stopped l.forward l.menu l.steps l.menu.chosen;
  within : ForSome l.which (λ i. i < length l.menu.items);
  most : l.left ≤ l.steps;
  fits : l.left < l.steps → is_too_long l.menu l.which ≡ false;
  began : l.left < l.steps → can_step l.forward l.menu l.steps l.menu.chosen ≡ true;
  start : l.left ≡ l.steps → l.which ≡ l.menu.chosen;
}

abbrev pub decreases-loop-left : goal.decreases-loop-left
decreases-loop-left l = l.left
