use Rattle.std.proofs.Common.{◌≡◌, length, min}
use Rattle.text_doc.specs.Gap.{joined}
use Rattle.text_doc.specs.RowStarts.{IsParted}
use Rattle.text_doc.proofs.row_starts.pass_back.Given as goal

abbrev pub invariant-loop-starts : goal.invariant-loop-starts
invariant-loop-starts l = record {
  parted : IsParted (joined l.chars) l.starts;
  count : min l.row (length l.starts.front) ≡ min l.row (length l.fn.starts.front);
  room : l.starts.room ≡ l.fn.starts.room;
}

abbrev pub decreases-loop-starts : goal.decreases-loop-starts
decreases-loop-starts l = length l.starts.front
