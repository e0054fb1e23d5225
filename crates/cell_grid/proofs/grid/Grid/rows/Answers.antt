use Rattle.std.proofs.Common.{sym}
use Rattle.cell_grid.proofs.GridLemmas.{seen_of}
use Rattle.cell_grid.proofs.grid.Grid.rows.Goals as goal

pub returns-clause-value : goal.returns-clause-value
returns-clause-value c =
    let i = c.self.inside in sym (seen_of i.rows i.cols i.cells.items c.args.self.now c.self.invariant c.self.view_is).count
