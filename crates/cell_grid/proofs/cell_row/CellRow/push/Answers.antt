use Rattle.std.proofs.Common.{false}
use Rattle.cell_grid.specs.Cell.{spread}
use Rattle.cell_grid.proofs.RowLemmas.{whole-append, whole-spread}
use Rattle.cell_grid.proofs.cell_row.CellRow.push.Goals as goal

pub invariant_of-self-2 : goal.invariant_of-self-2
invariant_of-self-2 c =
    rw c.in_ok-push_lead.ensures.ok
    (whole-append false c.self.inside.cells.items (spread c.args.lead) c.self.invariant (whole-spread c.args.lead c.requires))
