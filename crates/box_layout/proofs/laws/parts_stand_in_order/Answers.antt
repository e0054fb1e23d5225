use Rattle.box_layout.proofs.PartLaws.{in_order}
use Rattle.box_layout.proofs.laws.parts_stand_in_order.Goals as goal

pub returns : goal.returns
returns c = in_order
