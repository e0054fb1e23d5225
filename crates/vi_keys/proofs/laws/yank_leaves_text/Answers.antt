-- A copy changes no text.
use Rattle.vi_keys.proofs.Leaving.{yank_text}
use Rattle.vi_keys.proofs.laws.yank_leaves_text.Goals as goal

pub returns : goal.returns
returns c = yank_text
