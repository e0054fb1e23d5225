use Rattle.line_history.proofs.Growth.{entries_of-nil}
use Rattle.line_history.proofs.laws.none_at_first.Goals as goal

pub returns : goal.returns
returns c = entries_of-nil
