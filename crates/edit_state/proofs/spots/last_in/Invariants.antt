-- No place behind this one is a match.
use Rattle.std.proofs.Common.{◌≡◌, ℕ, ◌<◌, ◌≤◌, ◌+◌, ◌++◌, min, length, false}
use Rattle.edit_state.specs.Searches.{stands_at}
use Rattle.edit_state.proofs.spots.last_in.Given as goal

abbrev pub invariant-loop-at : goal.invariant-loop-at
invariant-loop-at l = (k : ℕ) → l.at ≤ k → k < min l.to (length l.front + length l.back + 1) → stands_at l.needle (l.front ++ l.back) k ≡ false
