use Rattle.box_layout.proofs.WindowsInside.{windows_inside}
use Rattle.box_layout.proofs.laws.windows_lie_inside_their_part.Goals as goal

pub returns : goal.returns
returns c = windows_inside
