use Rattle.std.proofs.Common.{◌≡◌, ◌++◌, drop, flat_map}
use Rattle.prompt_run.specs.Runs.{line_row}
use Rattle.prompt_run.proofs.prompts.lines_bytes.Given as goal

-- what was written and the lines that are left are all lines
abbrev pub invariant-loop-line : goal.invariant-loop-line
invariant-loop-line l = l.bytes ++ flat_map line_row (drop l.line-index l.line-items) ≡ flat_map line_row l.fn.lines
