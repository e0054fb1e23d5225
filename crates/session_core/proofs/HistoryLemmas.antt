-- No entry of a history is longer than a document's text.
use Rattle.std.proofs.Common.{ℕ, ◌-◌, ◌≤◌, Bool, true, false, List, [], ◌∷◌, ◌++◌, All, length, if◌then◌else◌}
use Rattle.std.specs.Prelude.{Option, None, Some, option_to_list, slice_get}
use Rattle.std.proofs.lemmas.List.Elements.{All-append, All-cons, All-drop, All-nil}
use Rattle.edit_buffer.specs.Moves.{newest}
use Rattle.session_core.specs.declared.outcomes.Outcome.{Outcome}
use Rattle.session_core.specs.declared.outcomes.Outcome.TheVariants.{Accepted, EndOfFile, Interrupted}
use Rattle.session_core.specs.History.{entry_by, entry_of, history_after, is_entry}
use Rattle.session_core.specs.Outcomes.{IsShortOutcome}

abbrev IsShort : List ℕ → Type 0
IsShort entry = length entry ≤ 32768

pub newest_short : (history : List (List ℕ)) → All (λ entry. length entry ≤ 32768) history → All (λ entry. length entry ≤ 32768) (newest history)
newest_short history short = All-drop IsShort (length history - 1000) history short

entry_short : (history : List (List ℕ)) (text : List ℕ) → length text ≤ 32768 → All IsShort (option_to_list (entry_by history text))
entry_short history [] short = All-nil IsShort
entry_short history (c ∷ cs) short = by (is_entry (slice_get history (length history - 1)) (c ∷ cs))
  where
    by : (b : Bool) → All IsShort (option_to_list (if b then None else Some (c ∷ cs)))
    by true = All-nil IsShort
    by false = All-cons IsShort (c ∷ cs) [] short (All-nil IsShort)

added_short : (history : List (List ℕ)) (outcome : Option Outcome) → IsShortOutcome outcome → All IsShort (option_to_list (entry_of history outcome))
added_short history None short = All-nil IsShort
added_short history (Some (Accepted text)) short = entry_short history text short
added_short history (Some EndOfFile) short = All-nil IsShort
added_short history (Some Interrupted) short = All-nil IsShort

pub history_short : (history : List (List ℕ)) (outcome : Option Outcome) → All (λ entry. length entry ≤ 32768) history → IsShortOutcome outcome
    → All (λ entry. length entry ≤ 32768) (history_after history outcome)
history_short history outcome short added =
    newest_short (history ++ option_to_list (entry_of history outcome))
    (All-append IsShort history (option_to_list (entry_of history outcome)) short (added_short history outcome added))
