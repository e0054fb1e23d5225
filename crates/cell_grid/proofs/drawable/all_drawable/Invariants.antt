use Rattle.std.proofs.Common.{drop, ◌↔◌}
use Rattle.cell_grid.specs.Drawable.{AllDrawable}
use Rattle.cell_grid.proofs.drawable.all_drawable.Given as goal

abbrev pub invariant-loop-cell : goal.invariant-loop-cell
invariant-loop-cell l = AllDrawable (drop l.cell-index l.cells) ↔ AllDrawable l.cells
