use Rattle.std.proofs.Common.{◌≡◌, length, ap, ◌∙◌, arith}
use Rattle.std.proofs.lemmas.List.{length-replicate}
use Rattle.cell_grid.specs.Grid.{blank_rows, columns}
use Rattle.cell_grid.specs.Row.{blank_row}
use Rattle.box_layout.specs.Areas.{whole}
use Rattle.box_layout.proofs.PaintedRows.{columns-none, painted-none}
use Rattle.box_layout.proofs.paints.paint_all.Goals as goal

pub loop-at-init : goal.loop-at-init
loop-at-init c =
    let size = c.args.size in
    let is : c.in_ok-grid.grid ≡ blank_rows size.rows size.cols = rw (c.rows.ensures.value, c.cols.ensures.value) at c.in_ok-grid.ensures in
    record {
      rows = ap length is ∙ length-replicate size.rows (blank_row size.cols);
      cols = ap columns is ∙ columns-none size.rows size.cols (omega (arith, c.rows.ensures.some, c.rows.ensures.value));
      so_far = is ∙ painted-none (whole size);
    }
