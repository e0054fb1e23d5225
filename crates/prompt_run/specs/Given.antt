-- What the first part of a script gives to a run: the settings, and the entries of a history.
use Rattle.std.specs.Prelude.{ℕ, List, [], ◌∷◌, codes, if◌then◌else◌}
use Rattle.std.specs.Str.{bytes_eq}
use Rattle.prompt_settings.specs.Settings.{Settings, no_settings}

-- the settings, and the entries with the oldest first
pub record Given : Type 0 where
  pub settings : Settings
  pub entries : List (List ℕ)

-- nothing was set
abbrev pub nothing_given : Given
nothing_given = record { settings = no_settings; entries = [] }

-- the entry that the value of a name is, if it is one
abbrev pub entries_in : List ℕ → List ℕ → List (List ℕ)
entries_in name value = if bytes_eq name (codes "entry") then value ∷ [] else []
