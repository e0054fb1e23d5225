use Rattle.std.proofs.Common.{◌-◌, arith, subst, take}
use Rattle.diff_render.specs.Redrawn.{GrowsTo, RowsSoFar}
use Rattle.diff_render.proofs.Growing.{redrawn_there, redrawn_higher}
use Rattle.diff_render.proofs.lines.redraw.Goals as goal

pub returns-in_ok-draw_below : goal.returns-in_ok-draw_below
returns-in_ok-draw_below c =
    let new = c.args.new.now in
    redrawn_higher _ _ _ _ _ _ c.args.old.now new (c.rows-height.result - 1) c.requires.old_rows
    (omega (arith, c.if-height-higher.true, c.rows-height.ensures.value, c.rows-higher.ensures.value))
    (omega (arith, c.rows-height.ensures.value, c.rows-height.ensures.some)) c.in_ok-draw_all.ensures c.in_ok-use_plain_pen.ensures c.in_ok-go_row.ensures
    (subst (λ n. GrowsTo c.go_row.new.self c.grow_to.new.self n) c.rows-higher.ensures.value c.in_ok-grow_to.ensures)
    (subst (λ n. RowsSoFar c.grow_to.new.self c.draw_below.new.w (take n new) new n c.grow_to.new.self.height) c.rows-height.ensures.value c.in_ok-draw_below.ensures)

pub returns-else-height-higher : goal.returns-else-height-higher
returns-else-height-higher c =
    redrawn_there _ _ c.args.old.now c.args.new.now c.requires.old_rows
    (omega (arith, c.requires.old_rows, c.if-height-higher.false, c.rows-height.ensures.value, c.rows-higher.ensures.value)) c.in_ok-draw_all.ensures
