use Rattle.std.proofs.Common.{rules}
use Rattle.diff_render.proofs.Leaves.{moves_added}
use Rattle.diff_render.proofs.writer.Writer.add_pen.Goals as goal

pub returns : goal.returns
returns c = moves_added _ _ _ _ c.requires.placed c.requires.pen c.in_ok-push_pen.ensures.bytes c.requires.some c.requires.joined (search rules)
