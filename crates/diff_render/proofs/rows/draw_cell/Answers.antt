use Rattle.diff_render.proofs.CellSteps.{redraws_cell}
use Rattle.diff_render.proofs.rows.draw_cell.Goals as goal

pub returns-in_ok-print : goal.returns-in_ok-print
returns-in_ok-print c =
    redraws_cell _ _ _ _ _ _ _ _ _ _ c.in-Lead.is c.in_ok-go_col.ensures c.in_ok-use_pen.ensures c.in_ok-print.ensures c.if-differ.ensures
