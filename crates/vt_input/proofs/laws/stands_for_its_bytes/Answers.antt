use Rattle.vt_input.proofs.InputLemmas.{after-whole}
use Rattle.vt_input.proofs.laws.stands_for_its_bytes.Goals as goal

pub returns : goal.returns
returns c = after-whole
