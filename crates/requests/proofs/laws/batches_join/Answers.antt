use Rattle.requests.proofs.JoiningLemmas.{joined_batches}
use Rattle.requests.proofs.laws.batches_join.Goals as goal

pub returns : goal.returns
returns c = joined_batches
