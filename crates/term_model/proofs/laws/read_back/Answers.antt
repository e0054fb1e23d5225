use Rattle.term_model.proofs.CharLemmas.{chars_of-front}
use Rattle.term_model.proofs.laws.read_back.Goals as goal

pub returns : goal.returns
returns c = chars_of-front
