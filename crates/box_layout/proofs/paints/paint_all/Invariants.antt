use Rattle.std.proofs.Common.{◌≡◌, length, take}
use Rattle.cell_grid.specs.Grid.{columns}
use Rattle.box_layout.specs.Painting.{drawn_rows}
use Rattle.box_layout.proofs.paints.paint_all.Given as goal

abbrev pub invariant-loop-at : goal.invariant-loop-at
invariant-loop-at l = record {
  rows : length l.grid ≡ l.fn.size.rows;
  cols : columns l.grid ≡ l.fn.size.cols;
  so_far : l.grid ≡ drawn_rows (take l.at l.placed) l.fn.size;
}
