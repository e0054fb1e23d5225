use Rattle.std.proofs.Common.{◌≡◌, ◌-◌, length, max}
use Rattle.text_doc.specs.Gap.{joined}
use Rattle.text_doc.specs.RowStarts.{IsParted}
use Rattle.text_doc.proofs.row_starts.pass_ahead.Given as goal

abbrev pub invariant-loop-starts : goal.invariant-loop-starts
invariant-loop-starts l = record {
  parted : IsParted (joined l.chars) l.starts;
  count : max l.row (length l.starts.front) ≡ max l.row (length l.fn.starts.front);
  room : l.starts.room ≡ l.fn.starts.room;
}

abbrev pub decreases-loop-starts : goal.decreases-loop-starts
decreases-loop-starts l = l.row - length l.starts.front
