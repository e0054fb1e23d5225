use Rattle.term_model.specs.Controls.{between, controls_from}
use Rattle.term_model.proofs.KeepLemmas.{acted-keeps}
use Rattle.term_model.proofs.laws.keep_terminal.Goals as goal

pub returns : goal.returns
returns c = λ t chars h. acted-keeps (controls_from between chars) t h
