use Rattle.box_layout.proofs.PartLaws.{covers}
use Rattle.box_layout.proofs.laws.parts_cover_each_place_once.Goals as goal

pub returns : goal.returns
returns c = covers
