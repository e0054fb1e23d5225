-- No place so far is a match.
use Rattle.std.proofs.Common.{◌≡◌, ℕ, ◌<◌, ◌≤◌, ◌++◌, false}
use Rattle.edit_state.specs.Searches.{stands_at}
use Rattle.edit_state.proofs.spots.first_in.Given as goal

abbrev pub invariant-loop-at : goal.invariant-loop-at
invariant-loop-at l = (k : ℕ) → l.from ≤ k → k < l.at → stands_at l.needle (l.front ++ l.back) k ≡ false
