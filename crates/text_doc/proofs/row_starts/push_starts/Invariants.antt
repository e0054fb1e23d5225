use Rattle.std.proofs.Common.{◌≡◌, ◌+◌, ◌≤◌, ◌++◌, length, drop}
use Rattle.text_doc.specs.RowStarts.{starts_from}
use Rattle.text_doc.proofs.row_starts.push_starts.Given as goal

abbrev pub invariant-loop-i : goal.invariant-loop-i
invariant-loop-i l = record {
  front : l.starts.front ++ starts_from (l.at + l.i) (drop l.i l.chars) ≡ l.fn.starts.front ++ starts_from l.at l.chars;
  back : l.starts.back ≡ l.fn.starts.back;
  room : length (starts_from (l.at + l.i) (drop l.i l.chars)) ≤ l.starts.room;
}
