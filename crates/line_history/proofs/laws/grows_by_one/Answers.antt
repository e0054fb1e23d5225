use Rattle.line_history.proofs.Growth.{grown_by_short}
use Rattle.line_history.proofs.laws.grows_by_one.Goals as goal

pub returns : goal.returns
returns c = grown_by_short
