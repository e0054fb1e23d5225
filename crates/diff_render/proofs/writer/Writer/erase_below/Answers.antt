use Rattle.std.proofs.Common.{rules}
use Rattle.diff_render.proofs.Leaves.{erases_below}
use Rattle.diff_render.proofs.writer.Writer.erase_below.Goals as goal

pub returns : goal.returns
returns c = erases_below _ _ c.requires.placed c.requires.pen (search rules)
