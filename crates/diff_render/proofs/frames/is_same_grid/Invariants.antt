use Rattle.std.proofs.Common.{◌≡◌, take, length}
use Rattle.diff_render.proofs.frames.is_same_grid.Given as goal

abbrev pub invariant-loop-row : goal.invariant-loop-row
invariant-loop-row l = record {
  rows : length l.a ≡ length l.b;
  so_far : take l.row l.a ≡ take l.row l.b;
}
