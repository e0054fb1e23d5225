use Rattle.std.proofs.Common.{false}
use Rattle.cell_grid.proofs.JoinLemmas.{whole-joined_last}
use Rattle.cell_grid.proofs.cell_row.CellRow.join_last.Goals as goal

pub invariant_of-self : goal.invariant_of-self
invariant_of-self c = rw c.join_last_of.ensures (whole-joined_last false c.self.inside.cells.items c.args.next c.self.invariant)
