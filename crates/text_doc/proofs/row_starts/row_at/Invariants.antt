use Rattle.std.proofs.Common.{◌-◌, ◌≤◌, length}
use Rattle.text_doc.specs.Gap.{joined}
use Rattle.text_doc.specs.Rows.{row_of}
use Rattle.text_doc.proofs.row_starts.row_at.Given as goal

abbrev pub invariant-loop-low : goal.invariant-loop-low
invariant-loop-low l = record {
  low : l.low ≤ row_of (joined l.chars) l.place;
  high : row_of (joined l.chars) l.place ≤ l.high;
  within : l.high ≤ length (joined l.starts);
}

abbrev pub decreases-loop-low : goal.decreases-loop-low
decreases-loop-low l = l.high - l.low
