use Rattle.std.proofs.Common.{rules}
use Rattle.diff_render.proofs.Leaves.{moves_left}
use Rattle.diff_render.proofs.writer.Writer.left.Goals as goal

pub returns : goal.returns
returns c = moves_left _ _ _ c.requires.placed c.requires.some c.requires.fits (search rules)
