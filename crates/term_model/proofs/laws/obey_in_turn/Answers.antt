use Rattle.term_model.proofs.ActedLemmas.{obeyed-append}
use Rattle.term_model.proofs.laws.obey_in_turn.Goals as goal

pub returns : goal.returns
returns c = obeyed-append
