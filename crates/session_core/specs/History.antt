-- What a contract sees of a session's history: its newest 1,000 entries, with the oldest first, and what an accepted text adds to it.
use Rattle.std.specs.Prelude.{ℕ, ◌-◌, Bool, false, List, [], ◌∷◌, ◌++◌, length, slice_get, Option, Some, None, if◌then◌else◌}
use Rattle.std.specs.Option.{option_to_list}
use Rattle.std.specs.Str.{bytes_eq}
use Rattle.edit_buffer.specs.Moves.{newest}
use Rattle.session_core.specs.declared.outcomes.Outcome.{Outcome}
use Rattle.session_core.specs.declared.outcomes.Outcome.TheVariants.{Accepted, EndOfFile, Interrupted}

-- the text is this entry
abbrev pub is_entry : Option (List ℕ) → List ℕ → Bool
is_entry None text = false
is_entry (Some entry) text = bytes_eq entry text

-- the entry that a text adds: itself, but nothing where it is empty or the newest entry
abbrev pub entry_by : List (List ℕ) → List ℕ → Option (List ℕ)
entry_by history [] = None
entry_by history (c ∷ cs) = if is_entry (slice_get history (length history - 1)) (c ∷ cs) then None else Some (c ∷ cs)

-- the entry that an outcome adds
abbrev pub entry_of : List (List ℕ) → Option Outcome → Option (List ℕ)
entry_of history None = None
entry_of history (Some (Accepted text)) = entry_by history text
entry_of history (Some EndOfFile) = None
entry_of history (Some Interrupted) = None

-- the history behind an outcome
abbrev pub history_after : List (List ℕ) → Option Outcome → List (List ℕ)
history_after history outcome = newest (history ++ option_to_list (entry_of history outcome))
