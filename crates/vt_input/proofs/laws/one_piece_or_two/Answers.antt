use Rattle.vt_input.proofs.InputLemmas.{presses-in-two, cut-in-two}
use Rattle.vt_input.proofs.laws.one_piece_or_two.Goals as goal

pub returns-clause-keys : goal.returns-clause-keys
returns-clause-keys c = presses-in-two

pub returns-clause-rest : goal.returns-clause-rest
returns-clause-rest c = cut-in-two
