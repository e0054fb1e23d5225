use Rattle.script_lines.proofs.WrittenLines.{read_back, says}
use Rattle.script_lines.proofs.laws.one_line_for_each.Goals as goal

pub returns : goal.returns
returns c = λ line said. (says line said, read_back line said)
