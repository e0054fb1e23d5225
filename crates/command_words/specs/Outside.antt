-- What a contract sees of the outside that words ask for.
use Rattle.std.specs.Prelude.{ℕ, Bool, true, false, List, Option, Some, None}
use Rattle.cell_grid.specs.Size.{Extent}
use Rattle.command_words.specs.Asked.{AskedFor}

-- whether they are words of the command, the size that they set, and where they say that the history is kept
pub record OutsideFields : Type 0 where
  pub accepted : Bool
  pub size : Option Extent
  pub history : Option (List ℕ)

-- words that are not those of the command say nothing
abbrev pub outside_by : Option AskedFor → OutsideFields
outside_by None = record { accepted = false; size = None; history = None }
outside_by (Some asked) = record { accepted = true; size = asked.settings.size; history = asked.history }
