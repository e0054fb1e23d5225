use Rattle.key_names.proofs.Words.{name_of-injective}
use Rattle.key_names.proofs.naming.read_name.Goals as goal

pub returns-in-Some-clause-known : goal.returns-in-Some-clause-known
returns-in-Some-clause-known c = λ key named.
    let same = name_of-injective c.in-Some.key key _ c.in-Some.ensures.found named in cc
