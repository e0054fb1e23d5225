use Rattle.box_layout.proofs.PartLaws.{all_inside}
use Rattle.box_layout.proofs.laws.parts_lie_inside.Goals as goal

pub returns : goal.returns
returns c = all_inside
