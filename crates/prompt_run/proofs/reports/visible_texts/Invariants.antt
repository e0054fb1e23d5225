use Rattle.std.proofs.Common.{◌≡◌, ◌++◌, drop}
use Rattle.prompt_run.specs.Report.{row_texts}
use Rattle.prompt_run.proofs.reports.visible_texts.Given as goal

-- the texts so far and those of the lines that are left are those of all visible lines
abbrev pub invariant-loop-at : goal.invariant-loop-at
invariant-loop-at l = l.texts ++ row_texts (drop l.at l.terminal.lines) ≡ row_texts (drop l.terminal.top l.terminal.lines)
