use Rattle.line_history.proofs.Growth.{ended_by_line_feed}
use Rattle.line_history.proofs.laws.ended_by_line_feed.Goals as goal

pub returns : goal.returns
returns c = ended_by_line_feed
