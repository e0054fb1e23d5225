use Rattle.std.proofs.Common.{◌≡◌, take, length}
use Rattle.cell_grid.specs.Grid.{columns}
use Rattle.diff_render.proofs.kept.keep_grid.Given as goal

abbrev pub invariant-loop-row : goal.invariant-loop-row
invariant-loop-row l = record {
  rows : length l.kept ≡ length l.grid;
  cols : columns l.kept ≡ columns l.grid;
  so_far : take l.row l.kept ≡ take l.row l.grid;
}
