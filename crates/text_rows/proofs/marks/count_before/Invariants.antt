-- All marks so far stand before the place.
use Rattle.std.proofs.Common.{ℕ, ◌-◌, ◌<◌, ◌≤◌, length, slice_index_or}
use Rattle.text_rows.specs.declared.marks.Mark.{Mark}
use Rattle.text_rows.proofs.marks.count_before.Given as goal

abbrev pub invariant-loop-count : goal.invariant-loop-count
invariant-loop-count l = record {
  within : l.count ≤ length l.marks;
  above : l.from ≤ l.count;
  before : (i : ℕ) (other : Mark) → i < l.count → (slice_index_or l.marks i other).place < l.place;
}

abbrev pub decreases-loop-count : goal.decreases-loop-count
decreases-loop-count l = length l.marks - l.count
