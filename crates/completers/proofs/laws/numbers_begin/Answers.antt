use Rattle.completers.proofs.LawsOfNumbers.{can_be_number, begins_front}
use Rattle.completers.proofs.laws.numbers_begin.Goals as goal

pub returns : goal.returns
returns c = λ front. (can_be_number front, λ made. begins_front front made.0 made.1)
