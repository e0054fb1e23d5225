-- No line so far has a match, and in another line than the first one every place counts.
use Rattle.std.proofs.Common.{◌≡◌, ℕ, ◌<◌, ◌≤◌, ◌==◌, if◌then◌else◌, false}
use Rattle.std.specs.Prelude.{is_some}
use Rattle.edit_state.specs.Searches.{ahead_in}
use Rattle.edit_state.proofs.spots.match_ahead.Given as goal

abbrev pub invariant-loop-line : goal.invariant-loop-line
invariant-loop-line l = record {
  before : (k : ℕ) → l.fn.spot.line ≤ k → k < l.line → is_some (ahead_in l.needle l.buffer l.fn.spot k) ≡ false;
  from : l.from ≡ (if l.line == l.fn.spot.line then l.fn.spot.at else 0);
}
