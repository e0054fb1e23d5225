-- What a contract sees of the command: its name and its options, each of which takes a value or is a flag, and stands once at most.
use Rattle.std.specs.Prelude.{ℕ, Bool, true, false, List, [], ◌∷◌, Some, codes}
use Rattle.clap.specs.Words.{App, Rule, new_app, new_rule, with_rule}
use Rattle.clap.specs.declared.builder.action.ArgAction.{ArgAction}
use Rattle.clap.specs.declared.builder.action.ArgAction.TheVariants.{Set, SetTrue}

-- the settings that the command has an option for
abbrev pub option_settings : List (List ℕ)
option_settings =
    codes "message" ∷ codes "toolbar" ∷ codes "rprompt" ∷ codes "default" ∷ codes "size" ∷ codes "repeat" ∷ []

-- the settings that a flag of the command switches on
abbrev pub flag_settings : List (List ℕ)
flag_settings = codes "multiline" ∷ codes "no-wrap" ∷ codes "password" ∷ []

-- what a flag does, and what an option does that takes a value
abbrev pub action_of : Bool → ArgAction
action_of true = SetTrue
action_of false = Set

-- a flag or an option of this name
abbrev pub option_rule : Bool → List ℕ → Rule
option_rule flag name = record (new_rule name) { long = Some name; action = Some (action_of flag) }

-- a command with flags or options of these names besides
abbrev pub with_options : Bool → App → List (List ℕ) → App
with_options flags app [] = app
with_options flags app (name ∷ names) = with_options flags (with_rule app (option_rule flags name)) names

-- the command
unfoldable pub prompt_app : App
prompt_app = with_options true (with_options false (new_app (codes "prompt")) (codes "history" ∷ option_settings)) flag_settings
