use Rattle.std.proofs.Common.{drop, ◌↔◌}
use Rattle.cell_grid.specs.Drawable.{AllRowsDrawable}
use Rattle.cell_grid.proofs.grid.Grid.is_drawable.Given as goal

abbrev pub invariant-loop-row : goal.invariant-loop-row
invariant-loop-row l = AllRowsDrawable (drop l.row l.self) ↔ AllRowsDrawable l.self
