use Rattle.cell_grid.proofs.RowLemmas.{whole-put_at}
use Rattle.cell_grid.proofs.cell_row.CellRow.put.Goals as goal

pub invariant_of-self : goal.invariant_of-self
invariant_of-self c =
    rw c.put_in_cells.ensures (whole-put_at c.self.inside.cells.items c.args.at c.args.lead c.self.invariant c.requires.lead)
