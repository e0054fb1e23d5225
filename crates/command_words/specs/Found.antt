-- What the reader of a command found in its words.
use Rattle.std.specs.Prelude.{◌≡◌, ℕ, List, [], Option, None, Some}
use Rattle.clap.specs.Words.{fault_of, found_of, matches_of, rows_of}
use Rattle.clap.specs.declared.parser.matches.ArgMatches.{ArgMatches}
use Rattle.command_words.specs.Command.{prompt_app}

-- no fault, and the options with their values, or a fault at least
abbrev pub Finds : List (List ℕ) → Option ArgMatches → Type 0
Finds words None = fault_of prompt_app words ≡ [] → ⊥
Finds words (Some matches) =
    (fault_of prompt_app words ≡ []) × (rows_of (found_of matches) ≡ matches_of prompt_app words)
