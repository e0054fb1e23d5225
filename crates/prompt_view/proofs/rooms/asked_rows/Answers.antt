use Rattle.std.proofs.Common.{arith}
use Rattle.prompt_view.proofs.Counts.{some_rows}
use Rattle.prompt_view.proofs.rooms.asked_rows.Goals as goal

pub returns-else-keeps_rows-clause-some : goal.returns-else-keeps_rows-clause-some
returns-else-keeps_rows-clause-some c = omega (arith, some_rows c.args.content.now c.cols.result c.requires.is, c.height-rows.ensures)
