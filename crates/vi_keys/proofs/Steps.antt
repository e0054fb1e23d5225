-- Steps taken one by one, and steps that lead nowhere.
use Rattle.edit_state.proofs.Steps.{stepped-first, stepped-stays}

-- what is known of steps
pub ruleset steps = (stepped-first, stepped-stays)
