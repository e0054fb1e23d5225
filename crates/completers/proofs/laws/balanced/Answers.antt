use Rattle.completers.proofs.LawsOfBrackets.{balanced_from, none_from}
use Rattle.completers.proofs.laws.balanced.Goals as goal

pub returns : goal.returns
returns c = λ text. (balanced_from text, none_from text)
