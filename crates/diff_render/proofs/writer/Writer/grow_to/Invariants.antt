use Rattle.diff_render.specs.Redrawn.{GrowsTo}
use Rattle.diff_render.proofs.writer.Writer.grow_to.Given as goal

abbrev pub invariant-loop-height : goal.invariant-loop-height
invariant-loop-height l = GrowsTo l.initial.self l.self l._height
