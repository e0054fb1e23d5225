use Rattle.std.proofs.Common.{refl, ◌∙◌, sym}
use Rattle.diff_render.proofs.RowEnds.{updates_none, updates_line, rests_same}
use Rattle.diff_render.proofs.rows.update_line.Goals as goal

pub returns-else-ne : goal.returns-else-ne
returns-else-ne c = updates_none _ _ _ _ c.requires.placed (rests_same _ _ _ _ refl refl c.if-ne.ensures)

pub returns-in_ok-draw_line : goal.returns-in_ok-draw_line
returns-in_ok-draw_line c =
    updates_line _ _ _ _ _ _ (c.requires.old_row.long ∙ sym c.requires.new_row.long) c.in_ok-go_row.ensures c.in_ok-draw_line.ensures
