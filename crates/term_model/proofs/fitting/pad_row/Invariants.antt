use Rattle.std.proofs.Common.{◌≡◌, ◌-◌, ◌++◌, min, length}
use Rattle.cell_grid.specs.Row.{blank_row}
use Rattle.term_model.proofs.fitting.pad_row.Given as goal

abbrev pub invariant-loop : goal.invariant-loop
invariant-loop l = l.row ≡ l.initial.row ++ blank_row (min l.counter l.cols - length l.initial.row)
