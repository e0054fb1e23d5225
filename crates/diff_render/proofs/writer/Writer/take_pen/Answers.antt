use Rattle.std.proofs.Common.{rules}
use Rattle.diff_render.proofs.Leaves.{moves_pen}
use Rattle.diff_render.proofs.writer.Writer.take_pen.Goals as goal

pub returns : goal.returns
returns c = moves_pen _ _ _ c.requires.placed c.requires.pen c.in_ok-push_pen.ensures.bytes (search rules)
