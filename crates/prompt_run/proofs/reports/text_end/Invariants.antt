use Rattle.std.proofs.Common.{◌≡◌, ◌≤◌, take}
use Rattle.prompt_run.specs.Report.{trimmed}
use Rattle.prompt_run.proofs.reports.text_end.Given as goal

-- the characters so far are trimmed there
abbrev pub invariant-loop-at : goal.invariant-loop-at
invariant-loop-at l = record { within : l.end ≤ l.at; so_far : take l.end l.chars ≡ trimmed (take l.at l.chars) }
