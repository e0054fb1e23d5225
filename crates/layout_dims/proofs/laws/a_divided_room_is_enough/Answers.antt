use Rattle.layout_dims.proofs.OneDivision.{room_enough}
use Rattle.layout_dims.proofs.laws.a_divided_room_is_enough.Goals as goal

pub returns : goal.returns
returns c = room_enough
