use Rattle.std.proofs.Common.{rules}
use lib.Utf8.{encode}
use Rattle.diff_render.proofs.Leaves.{moves_home}
use Rattle.diff_render.proofs.writer.Writer.home.Goals as goal

pub returns : goal.returns
unfolding encode
returns c = moves_home _ _ c.requires (search rules)
