-- The texts are equal behind this place.
use Rattle.std.proofs.Common.{◌≡◌, ◌-◌, ◌≤◌, drop, length}
use Rattle.text_rows.proofs.changes.common_back.Given as goal

abbrev pub invariant-loop-low : goal.invariant-loop-low
invariant-loop-low l = record {
  within_one : l.high ≤ length l.one;
  within_other : l.high ≤ length l.other;
  ordered : l.low ≤ l.high;
  same : drop (length l.one - l.low) l.one ≡ drop (length l.other - l.low) l.other;
}

abbrev pub decreases-loop-low : goal.decreases-loop-low
decreases-loop-low l = l.high - l.low
