use Rattle.requests.proofs.ReachLemmas.{answer_within, items_within}
use Rattle.requests.proofs.laws.batches_reach.Goals as goal

pub returns : goal.returns
returns c request = (answer_within request, items_within request)
