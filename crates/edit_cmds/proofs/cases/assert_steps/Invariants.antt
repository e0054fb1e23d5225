-- A search that runs keeps its origin.
use Rattle.edit_state.specs.Searches.{HasOrigin}
use Rattle.edit_cmds.proofs.cases.assert_steps.Given as goal

abbrev pub invariant-loop-step : goal.invariant-loop-step
invariant-loop-step g l = HasOrigin l.state
