use Rattle.std.proofs.Common.{◌≡◌, ◌++◌, List, length, fold}
use Rattle.cell_grid.specs.declared.cell.Cell.{Cell}
use Rattle.cell_grid.specs.Grid.{columns}
use Rattle.win_view.specs.FirstRow.{IsFirstRow}
use Rattle.win_view.specs.Rows.{rows_of}
use Rattle.win_view.specs.Showing.{HasRoom, passed}
use Rattle.win_view.proofs.layings.Laying.show_line.Given as goal

abbrev pub invariant-loop-count : goal.invariant-loop-count
invariant-loop-count l = record {
  first : IsFirstRow l.width l.rest l.count;
  wide : length l.self.spaces.items ≡ l.width;
  room : HasRoom l.self l.grid;
  cols : columns l.grid ≡ columns l.initial.grid;
  passed : (before : List (List Cell)) × ((l.self, l.grid) ≡ fold passed (l.initial.self, l.initial.grid) before) × (before ++ rows_of l.width l.rest ≡ rows_of l.width l.cells);
}

abbrev pub decreases-loop-count : goal.decreases-loop-count
decreases-loop-count l = length l.rest
