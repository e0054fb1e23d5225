use Rattle.characters.proofs.LossyLemmas.{characters-lossy}
use Rattle.characters.proofs.laws.decodes_whole_bytes.Goals as goal

pub returns : goal.returns
returns c = characters-lossy
