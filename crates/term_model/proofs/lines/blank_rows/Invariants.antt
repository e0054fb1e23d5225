use Rattle.std.proofs.Common.{◌≡◌}
use Rattle.cell_grid.specs.Grid.{blank_rows}
use Rattle.term_model.proofs.lines.blank_rows.Given as goal

abbrev pub invariant-loop : goal.invariant-loop
invariant-loop l = l.lines.items ≡ blank_rows l.counter l.cols
