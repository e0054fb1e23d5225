use Rattle.std.proofs.Common.{length, ◌≡◌, ◌+◌, ◌≤◌, ◌++◌, List}
use Rattle.cell_grid.specs.declared.cell.Cell.{Cell}
use Rattle.win_view.specs.FirstRow.{IsFirstRow}
use Rattle.win_view.specs.Rows.{rows_of}
use Rattle.win_view.proofs.rows.count_rows.Given as goal

abbrev pub invariant-loop-count : goal.invariant-loop-count
invariant-loop-count l = record {
  some : 1 ≤ l.rows;
  few : l.rows + length l.rest ≤ 1 + length l.cells;
  first : IsFirstRow l.width-2 l.rest l.count;
  rows : (rest : List Cell) → length (rows_of l.width-2 (l.cells ++ rest)) + 1 ≡ l.rows + length (rows_of l.width-2 (l.rest ++ rest));
}

abbrev pub decreases-loop-count : goal.decreases-loop-count
decreases-loop-count l = length l.rest
