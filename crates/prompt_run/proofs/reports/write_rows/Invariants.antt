use Rattle.std.proofs.Common.{◌≡◌, ◌++◌, drop, flat_map}
use Rattle.prompt_run.specs.Report.{report_row}
use Rattle.prompt_run.proofs.reports.write_rows.Given as goal

-- what was written and the rows that are left are all rows
abbrev pub invariant-loop-text : goal.invariant-loop-text
invariant-loop-text l = l.out.items ++ flat_map report_row (drop l.text-index l.texts) ≡ l.fn.out.items ++ flat_map report_row l.texts
