use Rattle.term_model.proofs.ActedLemmas.{obeyed_bytes-append}
use Rattle.term_model.proofs.laws.obey_in_two_calls.Goals as goal

pub returns : goal.returns
returns c = obeyed_bytes-append
