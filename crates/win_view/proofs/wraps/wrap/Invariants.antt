use Rattle.std.proofs.Common.{◌≡◌, ◌++◌, length}
use Rattle.win_view.specs.FirstRow.{IsFirstRow}
use Rattle.win_view.specs.Rows.{rows_of}
use Rattle.win_view.proofs.wraps.wrap.Given as goal

abbrev pub invariant-loop-count : goal.invariant-loop-count
invariant-loop-count l = record {
  first : IsFirstRow l.width-2 l.rest l.count;
  rows : l.rows ++ rows_of l.width-2 l.rest ≡ rows_of l.width-2 l.row;
}

abbrev pub decreases-loop-count : goal.decreases-loop-count
decreases-loop-count l = length l.rest
