-- What holds of how a prompt ended.
use Rattle.std.specs.Prelude.{◌≤◌, List, length, Option, None, Some}
use Rattle.session_core.specs.declared.outcomes.Outcome.{Outcome}
use Rattle.session_core.specs.declared.outcomes.Outcome.TheVariants.{Accepted, EndOfFile, Interrupted}

-- an accepted text is no longer than a document's
abbrev pub IsShortOutcome : Option Outcome → Type 0
IsShortOutcome None = Unit {0}
IsShortOutcome (Some (Accepted text)) = length text ≤ 32768
IsShortOutcome (Some EndOfFile) = Unit {0}
IsShortOutcome (Some Interrupted) = Unit {0}
