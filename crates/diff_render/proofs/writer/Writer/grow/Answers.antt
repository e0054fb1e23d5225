use Rattle.std.proofs.Common.{rules}
use lib.Utf8.{encode}
use Rattle.diff_render.proofs.Leaves.{grows_by_line}
use Rattle.diff_render.proofs.writer.Writer.grow.Goals as goal

pub returns : goal.returns
unfolding encode
returns c = grows_by_line _ _ c.requires.placed c.requires.last c.requires.room c.requires.pen c.in_ok-push.ensures.bytes (search rules) (search rules) (search rules) (search rules) (search rules) (search rules)
