use Rattle.std.proofs.Common.{◌≡◌, ◌++◌, drop}
use Rattle.prompt_run.specs.Report.{text_of}
use Rattle.prompt_run.proofs.reports.row_chars.Given as goal

-- the characters so far and those of the cells that are left are those of all cells
abbrev pub invariant-loop-cell : goal.invariant-loop-cell
invariant-loop-cell l = l.chars.items ++ text_of (drop l.cell-index l.cells) ≡ text_of l.cells
