use Rattle.std.proofs.Common.{◌≡◌, drop}
use Rattle.std.specs.List.{fold}
use Rattle.cell_grid.specs.TextCells.{cells_of, with_fragment}
use Rattle.cell_grid.proofs.text_cells.cells_of.Given as goal

abbrev pub invariant-loop-fragment : goal.invariant-loop-fragment
invariant-loop-fragment l = fold with_fragment l.row (drop l.fragment-index l.fragments) ≡ cells_of l.fragments
