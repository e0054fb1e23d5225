use Rattle.win_view.proofs.GreedyRows.{greedy-rows_of, joined-rows_of}
use Rattle.win_view.proofs.laws.rows_are_greedy.Goals as goal

pub returns-clause-joined : goal.returns-clause-joined
returns-clause-joined c = joined-rows_of

pub returns-clause-greedy : goal.returns-clause-greedy
returns-clause-greedy c = greedy-rows_of
