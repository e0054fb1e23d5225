use Rattle.session_core.proofs.StateLemmas.{answer_settles}
use Rattle.session_core.proofs.laws.answers_change_nothing.Goals as goal

pub returns : goal.returns
returns c = answer_settles
