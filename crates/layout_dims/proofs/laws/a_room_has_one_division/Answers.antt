use Rattle.layout_dims.proofs.OneDivision.{one_division}
use Rattle.layout_dims.proofs.laws.a_room_has_one_division.Goals as goal

pub returns : goal.returns
returns c = one_division
