use Rattle.std.proofs.Common.{rules}
use Rattle.diff_render.proofs.Leaves.{writes_cell}
use Rattle.diff_render.proofs.writer.Writer.print.Goals as goal

pub returns : goal.returns
returns c = writes_cell _ _ _ _ c.requires.placed c.requires.text c.requires.width c.requires.fits (search rules) (search rules) (search rules)
