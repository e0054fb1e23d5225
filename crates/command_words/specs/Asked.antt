-- What a contract sees of the words of the command: what they ask for, if they are words of it.
use Rattle.std.specs.Prelude.{◌≡◌, ℕ, Bool, true, false, List, [], ◌∷◌, Option, Some, None, option_map, option_and_then, codes, if◌then◌else◌}
use Rattle.std.specs.Str.{bytes_eq, chars}
use Rattle.clap.specs.Words.{Kinds, Row, fault_of, first_of, matches_of}
use Rattle.prompt_settings.specs.Refusal.{refusal_of, with_setting}
use Rattle.prompt_settings.specs.Settings.{Settings, no_settings}
use Rattle.prompt_settings.specs.declared.configs.SetFault.{SetFault}
use Rattle.command_words.specs.Command.{flag_settings, option_settings, prompt_app}

-- the settings, and where the history is kept
pub record AskedFor : Type 0 where
  pub settings : Settings
  pub history : Option (List ℕ)

-- the value of an option, as characters
abbrev pub value_in : List Row → List ℕ → Option (List ℕ)
value_in rows name = option_map chars (first_of name rows)

-- the value that switches a setting on, where its flag stands among the words
abbrev pub on_if : Option (List ℕ) → Option (List ℕ)
on_if None = None
on_if (Some text) = if bytes_eq text (codes "true") then Some (codes "on") else None

-- what a setting is given by its flag, or by its option
abbrev pub value_by : Bool → List Row → List ℕ → Option (List ℕ)
value_by true rows name = on_if (value_in rows name)
value_by false rows name = value_in rows name

-- a value is set, unless it is refused
abbrev pub unless_refused : Option SetFault → Settings → Option Settings
unless_refused None settings = Some settings
unless_refused (Some fault) settings = None

-- the settings with this value of a name, where there is one
abbrev pub with_value_in : Option (List ℕ) → List ℕ → Settings → Option Settings
with_value_in None name settings = Some settings
with_value_in (Some value) name settings = unless_refused (refusal_of settings name value) (with_setting settings name value)

-- the settings with the values of the flags or options of these names, unless one is refused
abbrev pub settings_in : Bool → List Row → List (List ℕ) → Settings → Option Settings
settings_in flags rows [] settings = Some settings
settings_in flags rows (name ∷ names) settings =
    option_and_then (settings_in flags rows names) (with_value_in (value_by flags rows name) name settings)

-- those of all options, and then of all flags
abbrev pub all_settings_in : List Row → Option Settings
all_settings_in rows = option_and_then (settings_in true rows flag_settings) (settings_in false rows option_settings no_settings)

-- what the options ask for, by the faults that were found in the words
abbrev pub asked_by : Kinds → List Row → Option AskedFor
asked_by [] rows =
    option_map (λ settings. record { settings = settings; history = value_in rows (codes "history") })
    (all_settings_in rows)
asked_by (kind ∷ kinds) rows = None

-- the words are those of the command where it has no fault to find in them, and each setting may have the value that is given to it
unfoldable pub asked_of : List (List ℕ) → Option AskedFor
asked_of words = asked_by (fault_of prompt_app words) (matches_of prompt_app words)

-- values were set, or one of them may not be
abbrev pub SetsTo : Bool → Option Settings → Settings → Type 0
SetsTo true found settings = found ≡ Some settings
SetsTo false found settings = found ≡ None
