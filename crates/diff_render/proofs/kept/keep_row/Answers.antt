use Rattle.diff_render.proofs.Copies.{row_stays, rows_same}
use Rattle.diff_render.proofs.kept.keep_row.Goals as goal

pub returns-else-ne-clause-row : goal.returns-else-ne-clause-row
returns-else-ne-clause-row c =
    row_stays c.args.kept.now _ c.args.row
    (rows_same c.args.kept.now c.args.grid.now c.args.row _ _ c.row.ensures.value c.row-2.ensures.value c.if-ne.ensures)
