use Rattle.completers.proofs.LawsOfBrackets.{ends_balance}
use Rattle.completers.proofs.laws.fault_of_a_closing_bracket.Goals as goal

pub returns : goal.returns
returns c = ends_balance
