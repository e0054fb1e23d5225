use Rattle.std.proofs.Common.{rules}
use lib.Utf8.{encode}
use Rattle.diff_render.proofs.Leaves.{moves_down}
use Rattle.diff_render.proofs.writer.Writer.down.Goals as goal

pub returns : goal.returns
unfolding encode
returns c = moves_down _ _ c.requires.placed c.requires.fits (search rules)
