use Rattle.diff_render.proofs.RowEnds.{erases_from}
use Rattle.diff_render.proofs.rows.erase_from.Goals as goal

pub returns : goal.returns
returns c =
    erases_from _ _ _ _ _ _ _ _ _ _ c.requires.old_row.long c.requires.new_row.long c.requires.in_cols c.requires.blank c.requires.new_row.whole
    c.in_ok-go_row.ensures c.in_ok-draw_cells.ensures c.in_ok-go_col.ensures c.in_ok-use_plain_pen.ensures c.in_ok-erase_below.ensures
