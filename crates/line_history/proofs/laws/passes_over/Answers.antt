use Rattle.line_history.proofs.Growth.{grown_by_long}
use Rattle.line_history.proofs.laws.passes_over.Goals as goal

pub returns : goal.returns
returns c = grown_by_long
