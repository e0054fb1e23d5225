use Rattle.characters.proofs.UnfinishedLemmas.{rest-begins, rest-longest, before-decoded}
use Rattle.characters.proofs.laws.rest_is_longest.Goals as goal

pub returns-clause-begins : goal.returns-clause-begins
returns-clause-begins c = rest-begins

pub returns-clause-longest : goal.returns-clause-longest
returns-clause-longest c = rest-longest

pub returns-clause-before : goal.returns-clause-before
returns-clause-before c = before-decoded
