use Rattle.std.proofs.Common.{arith, sym, ap, ◌∙◌, subst, take}
use Rattle.cell_grid.specs.Drawable.{AllDrawable}
use Rattle.cell_grid.specs.Row.{blank_row}
use Rattle.diff_render.specs.Redrawn.{line_at}
use Rattle.diff_render.proofs.LineSteps.{rows_more, updates_as, row_drawable, blank_is_row}
use Rattle.diff_render.proofs.LineEnds.{few_taken}
use Rattle.diff_render.proofs.Growing.{rows_begun, line_behind, line_inside}
use Rattle.diff_render.proofs.lines.draw_below.Goals as goal

pub loop-at-init : goal.loop-at-init
loop-at-init c = rows_begun _ c.args.new.now _ c.requires.placed c.requires.new_rows c.requires.within

pub update_line-requires-clause-old_row : goal.update_line-requires-clause-old_row
update_line-requires-clause-old_row c = blank_is_row _ _ (c.requires.blanks ∙ ap blank_row (sym c.loop-at.invariant.same.cols))

pub update_line-requires-clause-cells : goal.update_line-requires-clause-cells
update_line-requires-clause-cells c = subst AllDrawable (sym c.row.ensures.value) (row_drawable c.args.new.now c.loop-at.at c.requires.cells)

pub loop-at-preserved : goal.loop-at-preserved
loop-at-preserved c =
    let cols = c.args.w.now.cols in
    let first = c.args.first in
    let new = c.args.new.now in
    let at = c.loop-at.at in
    rows_more _ _ _ (take first new) new first at c.loop-at.auto.at (omega (arith, few_taken first new, c.requires.within, c.requires.placed.on_line))
    (omega (arith, c.requires.new_rows)) (omega (arith, c.loop-at-test.true, c.requires.new_rows)) c.loop-at.invariant
    (updates_as _ _ _ _ _ (line_at cols (take first new) at) (line_at cols new at) (c.requires.blanks ∙ line_behind cols first new at c.loop-at.auto.at)
    (c.row.ensures.value ∙ line_inside cols new at (omega (arith, c.loop-at-test.true))) c.in_ok-update_line.ensures)
