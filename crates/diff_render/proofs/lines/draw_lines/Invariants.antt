use Rattle.std.proofs.Common.{take}
use Rattle.diff_render.specs.Redrawn.{RowsSoFar}
use Rattle.diff_render.proofs.lines.draw_lines.Given as goal

abbrev pub invariant-loop-at : goal.invariant-loop-at
invariant-loop-at l = RowsSoFar l.initial.w l.w l.old (take l.initial.w.height l.new) 0 l.at
