use Rattle.vt_input.proofs.SmallLemmas.{IsSmall-stands_for}
use Rattle.vt_input.proofs.laws.keeps_little.Goals as goal

pub returns : goal.returns
returns c = IsSmall-stands_for
