-- The texts are equal so far.
use Rattle.std.proofs.Common.{◌≡◌, ◌-◌, ◌≤◌, length, take}
use Rattle.text_rows.proofs.changes.common_front.Given as goal

abbrev pub invariant-loop-low : goal.invariant-loop-low
invariant-loop-low l = record {
  within_one : l.high ≤ length l.one;
  within_other : l.high ≤ length l.other;
  ordered : l.low ≤ l.high;
  same : take l.low l.one ≡ take l.low l.other;
}

abbrev pub decreases-loop-low : goal.decreases-loop-low
decreases-loop-low l = l.high - l.low
