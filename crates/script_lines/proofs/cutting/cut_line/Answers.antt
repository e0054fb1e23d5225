use Rattle.script_lines.proofs.LineLemmas.{line_ends, line_is_last}
use Rattle.script_lines.proofs.cutting.cut_line.Goals as goal

pub returns-in-Some-clause-line : goal.returns-in-Some-clause-line
returns-in-Some-clause-line c = line_ends c.args.text.now c.in-Some.cut.0.now c.in-Some.cut.1.now c.in-Some.ensures.lines

pub returns-in-None-clause-line : goal.returns-in-None-clause-line
returns-in-None-clause-line c = line_is_last c.args.text.now c.requires.some c.in-None.ensures.lines
