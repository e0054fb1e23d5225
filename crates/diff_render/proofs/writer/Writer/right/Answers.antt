use Rattle.std.proofs.Common.{rules}
use Rattle.diff_render.proofs.Leaves.{moves_right}
use Rattle.diff_render.proofs.writer.Writer.right.Goals as goal

pub returns : goal.returns
returns c = moves_right _ _ _ c.requires.placed c.requires.some c.requires.fits (search rules)
