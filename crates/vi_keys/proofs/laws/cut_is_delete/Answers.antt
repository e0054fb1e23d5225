-- Both delete the same range.
use Rattle.vi_keys.proofs.Leaving.{cut_is_delete}
use Rattle.vi_keys.proofs.laws.cut_is_delete.Goals as goal

pub returns : goal.returns
returns c = cut_is_delete
