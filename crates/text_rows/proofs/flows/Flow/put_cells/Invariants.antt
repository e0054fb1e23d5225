-- The rows so far, with those that the cells left begin, are all.
use Rattle.std.proofs.Common.{◌+◌, ◌≤◌, drop}
use Rattle.text_rows.specs.Flows.{columns_in}
use Rattle.text_rows.proofs.FlowLemmas.{Counted}
use Rattle.text_rows.proofs.flows.Flow.put_cells.Given as goal

abbrev pub invariant-loop-cell : goal.invariant-loop-cell
invariant-loop-cell l =
    Counted l.width l.self.rows l.self.room l.fn.self.rows l.fn.self.room (columns_in (drop l.cell-index l.cells)) (columns_in l.cells)
    × (l.self.rows ≤ l.fn.self.rows + l.cell-index)
