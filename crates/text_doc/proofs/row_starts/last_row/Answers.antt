use Rattle.std.proofs.Common.{◌∙◌}
use Rattle.text_doc.specs.Gap.{joined}
use Rattle.text_doc.proofs.StartGaps.{IsParted-indexed, length-parted}
use Rattle.text_doc.proofs.row_starts.last_row.Goals as goal

pub returns : goal.returns
returns c = c.len.ensures.len ∙ length-parted (joined c.args.chars.now) c.args.starts.now (IsParted-indexed c.args.chars.now c.args.starts.now c.requires.indexed)
