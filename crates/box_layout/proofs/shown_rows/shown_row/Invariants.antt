use Rattle.std.proofs.Common.{◌≡◌, length, take}
use Rattle.cell_grid.specs.Grid.{columns}
use Rattle.box_layout.specs.Painting.{area_rows}
use Rattle.box_layout.proofs.PaintedRows.{first_in}
use Rattle.box_layout.proofs.shown_rows.shown_row.Given as goal

abbrev pub invariant-loop-one : goal.invariant-loop-one
invariant-loop-one l = record {
  rows : length l.grid ≡ 1;
  cols : columns l.grid ≡ l.area.size.cols;
  so_far : l.grid ≡ area_rows (take l.one-index l.placed) (first_in l.area);
}
