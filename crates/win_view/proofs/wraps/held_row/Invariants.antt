use Rattle.std.proofs.Common.{◌≡◌, take}
use Rattle.std.specs.List.{flat_map}
use Rattle.win_view.proofs.HeldRows.{pushed_cell}
use Rattle.win_view.proofs.wraps.held_row.Given as goal

abbrev pub invariant-loop-cell : goal.invariant-loop-cell
invariant-loop-cell l = l.row ≡ flat_map (pushed_cell l.width) (take l.cell-index l.cells)
