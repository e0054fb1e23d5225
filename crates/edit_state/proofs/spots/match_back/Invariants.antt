-- No line behind this one has a match.
use Rattle.std.proofs.Common.{◌≡◌, ℕ, ◌<◌, ◌≤◌, ◌+◌, false}
use Rattle.std.specs.Prelude.{is_some}
use Rattle.edit_state.specs.Searches.{back_in}
use Rattle.edit_state.proofs.spots.match_back.Given as goal

abbrev pub invariant-loop-line : goal.invariant-loop-line
invariant-loop-line l = (k : ℕ) → l.line ≤ k → k < l.fn.spot.line + 1 → is_some (back_in l.needle l.buffer l.fn.spot k) ≡ false
