use Rattle.std.proofs.Common.{◌≡◌, ◌+◌, ◌<◌, ◌≤◌, length}
use Rattle.win_view.specs.Contents.{last_row, rows_to}
use Rattle.win_view.specs.FirstRow.{IsFirstRow}
use Rattle.win_view.proofs.places.place_in_line.Given as goal

abbrev pub invariant-loop-count : goal.invariant-loop-count
invariant-loop-count l = record {
  within : l.at < length l.rest;
  few : l.row + length l.rest ≤ length l.cells;
  first : IsFirstRow l.width l.rest l.count;
  rows : length (rows_to l.width l.cells l.cell) ≡ l.row + length (rows_to l.width l.rest l.at);
  last : last_row (rows_to l.width l.cells l.cell) ≡ last_row (rows_to l.width l.rest l.at);
}

abbrev pub decreases-loop-count : goal.decreases-loop-count
decreases-loop-count l = length l.rest
