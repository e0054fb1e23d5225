use Rattle.std.proofs.Common.{◌≡◌, ◌-◌, length, take, replicate}
use Rattle.cell_grid.specs.Grid.{blitted, columns}
use Rattle.win_view.proofs.layings.Laying.show_spaces.Given as goal

abbrev pub invariant-loop-at : goal.invariant-loop-at
invariant-loop-at l = record {
  so_far : l.grid ≡ blitted l.initial.grid (take l.at (replicate (l.self.end - l.self.row) l.self.spaces.items)) l.self.row l.self.col;
  count : length l.grid ≡ length l.initial.grid;
  width : columns l.grid ≡ columns l.initial.grid;
}
