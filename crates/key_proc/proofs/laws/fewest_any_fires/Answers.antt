use Rattle.key_proc.proofs.Fewest.{eager-fires, longest-fires}
use Rattle.key_proc.proofs.laws.fewest_any_fires.Goals as goal

pub returns-clause-eager : goal.returns-clause-eager
returns-clause-eager c = eager-fires

pub returns-clause-longest : goal.returns-clause-longest
returns-clause-longest c = longest-fires
