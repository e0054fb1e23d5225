use Rattle.std.proofs.Common.{arith, sym, ap, ◌∙◌, subst, take}
use Rattle.cell_grid.specs.Drawable.{AllDrawable}
use Rattle.diff_render.specs.Redrawn.{line_at}
use Rattle.diff_render.proofs.LineSteps.{rows_none, rows_more, updates_as, line_drawable}
use Rattle.diff_render.proofs.LineEnds.{few_taken, line_taken}
use Rattle.diff_render.proofs.lines.draw_lines.Goals as goal

pub loop-at-init : goal.loop-at-init
loop-at-init c = rows_none _ _ _ c.requires.placed

pub update_line-requires-clause-cells : goal.update_line-requires-clause-cells
update_line-requires-clause-cells c = subst AllDrawable (sym c.line_of-after.ensures.value) (line_drawable _ c.args.new.now c.loop-at.at c.requires.cells)

pub loop-at-preserved : goal.loop-at-preserved
loop-at-preserved c =
    let cols = c.args.w.now.cols in
    let height = c.args.w.now.height in
    let new = c.args.new.now in
    let at = c.loop-at.at in
    rows_more _ _ _ c.args.old.now (take height new) 0 at (omega arith) c.requires.old_rows (few_taken height new)
    (omega (arith, c.loop-at-test.true, c.requires.within)) c.loop-at.invariant
    (updates_as _ _ _ _ _ (line_at cols c.args.old.now at) (line_at cols (take height new) at)
    (c.line_of-before.ensures.value ∙ ap (λ n. line_at n c.args.old.now at) c.requires.old_cols)
    (c.line_of-after.ensures.value ∙ ap (λ n. line_at n new at) c.requires.new_cols
    ∙ line_taken cols height new at (omega (arith, c.loop-at-test.true, c.requires.within))) c.in_ok-update_line.ensures)
