use Rattle.std.proofs.Common.{rules}
use Rattle.diff_render.proofs.Leaves.{moves_up}
use Rattle.diff_render.proofs.writer.Writer.up.Goals as goal

pub returns : goal.returns
returns c = moves_up _ _ _ c.requires.placed c.requires.some c.requires.fits (search rules)
