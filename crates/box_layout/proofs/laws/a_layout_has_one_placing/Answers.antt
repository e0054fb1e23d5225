use Rattle.box_layout.proofs.OnePlacing.{one_placing}
use Rattle.box_layout.proofs.laws.a_layout_has_one_placing.Goals as goal

pub returns : goal.returns
returns c = one_placing
