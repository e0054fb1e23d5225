use Rattle.vt_input.proofs.InputLemmas.{given-all}
use Rattle.vt_input.proofs.laws.any_pieces.Goals as goal

pub returns : goal.returns
returns c = λ rows inputs. given-all inputs rows
