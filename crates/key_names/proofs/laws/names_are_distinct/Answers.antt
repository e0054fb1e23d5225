use Rattle.key_names.proofs.Words.{name_of-injective}
use Rattle.key_names.proofs.laws.names_are_distinct.Goals as goal

pub returns : goal.returns
returns c = name_of-injective
