use Rattle.cell_grid.proofs.RowLemmas.{whole-narrow}
use Rattle.cell_grid.proofs.cell_row.CellRow.filled.Goals as goal

pub invariant_of-result : goal.invariant_of-result
invariant_of-result c = rw (c.in_ok-cells.ensures.items_if_clones_equal (λ y h. h), c.narrow.ensures) (whole-narrow c.args.cols c.args.c c.args.attrs)
