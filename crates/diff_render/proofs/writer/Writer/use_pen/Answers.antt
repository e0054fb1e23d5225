use Rattle.diff_render.proofs.Moves.{moves_still}
use Rattle.diff_render.proofs.writer.Writer.use_pen.Goals as goal

pub returns-else-ne : goal.returns-else-ne
returns-else-ne c = moves_still c.args.self.now c.args.pen.now c.requires.placed c.if-ne.ensures
