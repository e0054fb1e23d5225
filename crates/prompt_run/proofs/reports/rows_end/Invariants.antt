use Rattle.std.proofs.Common.{◌≡◌, ◌≤◌, take}
use Rattle.prompt_run.specs.Report.{has_no_text, without_last}
use Rattle.prompt_run.proofs.reports.rows_end.Given as goal

-- the texts so far end there
abbrev pub invariant-loop-at : goal.invariant-loop-at
invariant-loop-at l = record { within : l.end ≤ l.at; so_far : take l.end l.texts ≡ without_last has_no_text (take l.at l.texts) }
