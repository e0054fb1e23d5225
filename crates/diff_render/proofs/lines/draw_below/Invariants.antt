use Rattle.std.proofs.Common.{take}
use Rattle.diff_render.specs.Redrawn.{RowsSoFar}
use Rattle.diff_render.proofs.lines.draw_below.Given as goal

abbrev pub invariant-loop-at : goal.invariant-loop-at
invariant-loop-at l = RowsSoFar l.initial.w l.w (take l.first l.new) l.new l.first l.at
