use Rattle.std.proofs.Common.{sym, ◌∙◌, arith}
use Rattle.diff_render.proofs.RowSteps.{row_none, row_more, fits_here, drawable_here}
use Rattle.diff_render.proofs.rows.draw_cells.Goals as goal

pub loop-at-init : goal.loop-at-init
loop-at-init c = row_none _ _ _ c.requires.placed c.requires.old_row.whole c.requires.new_row.whole

pub draw_cell-requires-clause-cell : goal.draw_cell-requires-clause-cell
draw_cell-requires-clause-cell c = drawable_here c.args.new.now c.loop-at.at _ c.requires.cells (omega arith) c.index-new-at.is

pub draw_cell-requires-clause-fits : goal.draw_cell-requires-clause-fits
draw_cell-requires-clause-fits c =
    fits_here c.args.new.now _ _ _ c.requires.new_row.whole (c.requires.new_row.long ∙ sym c.loop-at.invariant.same.cols) (omega arith) c.index-new-at.is

pub loop-at-preserved : goal.loop-at-preserved
loop-at-preserved c =
    row_more _ _ _ c.args.old.now c.args.new.now _ _ _ c.requires.old_row.whole c.requires.new_row.whole c.requires.old_row.long c.requires.new_row.long
    (omega (arith, c.requires.old_row.long, c.requires.new_row.long)) (omega arith) c.index-old-at.is c.index-new-at.is c.loop-at.invariant c.in_ok-draw_cell.ensures
