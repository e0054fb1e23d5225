use Rattle.std.proofs.Common.{rules}
use Rattle.diff_render.proofs.Leaves.{moves_plain}
use Rattle.diff_render.proofs.writer.Writer.take_plain_pen.Goals as goal

pub returns : goal.returns
returns c = moves_plain _ _ c.requires (search rules)
