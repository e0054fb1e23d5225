use Rattle.layout_dims.proofs.Alike.{stage_fair}
use Rattle.layout_dims.proofs.laws.equal_weights_share_alike.Goals as goal

pub returns : goal.returns
returns c = stage_fair
