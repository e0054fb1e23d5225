use Rattle.std.proofs.Common.{true}
use Rattle.vt_input.specs.Pressed.{first_key}
use Rattle.characters.proofs.CutLemmas.{rest-nil}
use Rattle.vt_input.proofs.KeyLemmas.{first_key-flush}
use Rattle.vt_input.proofs.laws.flush_leaves_nothing.Goals as goal

pub returns : goal.returns
returns c = λ rows x. rest-nil (first_key rows true) (λ d ds e. first_key-flush rows d ds e) 0 x
