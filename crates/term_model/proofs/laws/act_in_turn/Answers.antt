use Rattle.term_model.proofs.ActedLemmas.{acted-append}
use Rattle.term_model.proofs.laws.act_in_turn.Goals as goal

pub returns : goal.returns
returns c = acted-append
