use Rattle.std.proofs.Common.{rules}
use Rattle.diff_render.proofs.Leaves.{erases_line}
use Rattle.diff_render.proofs.writer.Writer.erase_line.Goals as goal

pub returns : goal.returns
returns c = erases_line _ _ c.requires.placed c.requires.pen (search rules)
