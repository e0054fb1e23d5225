use Rattle.diff_render.proofs.LineSteps.{grows_more}
use Rattle.diff_render.proofs.writer.Writer.grow_to.Goals as goal

pub loop-height-preserved : goal.loop-height-preserved
loop-height-preserved c = grows_more _ _ _ _ c.loop-height.auto._height c.loop-height.invariant c.in_ok-grow.ensures
