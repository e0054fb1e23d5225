use Rattle.std.proofs.Common.{◌≡◌, length, sym, ◌∙◌}
use Rattle.diff_render.proofs.RowEnds.{row_erased, row_same_end, rests_differ, rests_same, rests_none}
use Rattle.diff_render.proofs.rows.draw_line.Goals as goal
use Rattle.diff_render.proofs.rows.draw_line.Goals.{else-end-new-via-then-end-new+else-ne}
use Rattle.diff_render.proofs.rows.draw_line.Goals.{else-end-new-via-else-end-new}

pub returns-in_ok-erase_line : goal.returns-in_ok-erase_line
returns-in_ok-erase_line c =
    row_erased _ _ _ _ _ _ _ _ c.requires.old_row.long c.requires.new_row.long c.if-end-new.true c.erased_from-end.ensures.blank c.requires.new_row.whole
    (rests_differ _ _ _ _ c.split_at.ensures.back c.split_at-2.ensures.back c.if-ne.ensures) c.in_ok-draw_cells.ensures c.in_ok-go_col.ensures
    c.in_ok-use_plain_pen.ensures c.in_ok-erase_line.ensures

pub returns-else-end-new : goal.returns-else-end-new
returns-else-end-new c =
    let same : length c.args.old.now ≡ length c.args.new.now = c.requires.old_row.long ∙ sym c.requires.new_row.long in
    elim c.else-end-new.branch [
      | else-end-new-via-then-end-new+else-ne w ↦
          row_same_end _ _ _ _ _ same c.erased_from-end.ensures.within c.erased_from-end.ensures.blank
          (rests_same _ _ _ _ c.split_at.ensures.back c.split_at-2.ensures.back w.if-ne.ensures) c.in_ok-draw_cells.ensures
      | else-end-new-via-else-end-new w ↦
          row_same_end _ _ _ _ _ same c.erased_from-end.ensures.within c.erased_from-end.ensures.blank (rests_none c.args.old.now c.args.new.now c.erased_from-end.result same w.if-end-new.false)
          c.in_ok-draw_cells.ensures
    ]
