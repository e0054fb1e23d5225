use Rattle.diff_render.proofs.LineSteps.{blank_is_row}
use Rattle.diff_render.proofs.lines.line_of.Goals as goal

pub returns-else-row-rows-clause-row : goal.returns-else-row-rows-clause-row
returns-else-row-rows-clause-row c = blank_is_row _ _ c.requires
