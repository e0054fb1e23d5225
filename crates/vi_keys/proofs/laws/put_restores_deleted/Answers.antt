-- The clip is put where it was cut.
use Rattle.vi_keys.proofs.Restoring.{put_restores}
use Rattle.vi_keys.proofs.laws.put_restores_deleted.Goals as goal

pub returns : goal.returns
returns c = put_restores
