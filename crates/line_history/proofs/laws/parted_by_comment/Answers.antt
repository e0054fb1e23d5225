use Rattle.std.proofs.Common.{ap, ◌∙◌, ◌∷◌, [], append_assoc}
use Rattle.line_history.specs.History.{entries_of}
use Rattle.line_history.proofs.Growth.{parted_by_comment}
use Rattle.line_history.proofs.laws.parted_by_comment.Goals as goal

pub returns : goal.returns
returns c = λ file more. ap entries_of (append_assoc file (10 ∷ 35 ∷ []) more) ∙ parted_by_comment file more
