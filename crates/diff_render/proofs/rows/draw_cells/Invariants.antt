use Rattle.diff_render.specs.Redrawing.{RowSoFar}
use Rattle.diff_render.proofs.rows.draw_cells.Given as goal

abbrev pub invariant-loop-at : goal.invariant-loop-at
invariant-loop-at l = RowSoFar l.initial.w l.w l.old l.new l.at
