-- Nothing is done.
use Rattle.vi_keys.proofs.Leaving.{no_place}
use Rattle.vi_keys.proofs.laws.no_place_ends.Goals as goal

pub returns : goal.returns
returns c = no_place
