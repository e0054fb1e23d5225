use Rattle.layout_dims.proofs.Alike.{later_round}
use Rattle.layout_dims.proofs.laws.one_turn_a_round.Goals as goal

pub returns : goal.returns
returns c = later_round
