use Rattle.std.proofs.Common.{◌≡◌, ◌≤◌, length, take}
use Rattle.cell_grid.specs.Grid.{blitted, columns}
use Rattle.cell_grid.proofs.grid.Grid.blit.Given as goal

abbrev pub invariant-loop-i : goal.invariant-loop-i
invariant-loop-i l = record {
  so_far : l.self ≡ blitted l.initial.self (take l.i l.part) l.row l.col;
  count : length l.self ≡ length l.initial.self;
  width : columns l.self ≡ columns l.initial.self;
  few : length l.self ≤ 1000;
}
