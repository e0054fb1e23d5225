-- The rows of Emacs keys that insert.
use Rattle.std.specs.Prelude.{ℕ, ◌==◌, Bool, ◌||◌, List, [], ◌∷◌, take_while, slice_range, Option, None, Some}
use Rattle.text_doc.specs.Document.{Document}
use Rattle.text_doc.specs.Rows.{line_start}
use Rattle.key_names.specs.declared.key.Key.{Key}
use Rattle.key_names.specs.declared.key.Key.TheVariants.{Char}
use Rattle.edit_state.specs.declared.states.EditState.{EditState}
use Rattle.edit_state.specs.Arguments.{amount_in, times_of}
use Rattle.edit_state.specs.StateEdits.{inserted_times, IsTooLong}

-- how often a typed character is inserted
abbrev pub times_in : EditState → ℕ
times_in s = times_of (amount_in s.arg)

-- a typed character is inserted as often as the argument says, and not at all by a negative one
abbrev pub self_insert : Key → EditState → EditState
self_insert (Char c) s = inserted_times s (c ∷ []) (times_in s)
self_insert _ s = s

abbrev pub IsSelfInsertTooLong : Key → EditState → Type 0
IsSelfInsertTooLong (Char c) s = IsTooLong s (c ∷ []) (times_in s)
IsSelfInsertTooLong _ s = ⊥

-- the characters of a key, or of a paste, are inserted once
abbrev pub insert_text : List ℕ → EditState → EditState
insert_text text s = inserted_times s text 1

abbrev pub is_blank : ℕ → Bool
is_blank c = c == 32 || c == 9

-- the spaces and tabs that the cursor's row starts with, up to the cursor
abbrev pub indent : Document → List ℕ
indent d = take_while is_blank (slice_range d.text (line_start d.text d.cursor) d.cursor)

-- a new row starts as the cursor's row does
abbrev pub newline : EditState → EditState
newline s = inserted_times s (10 ∷ indent s.buffer.doc) 1

-- the suggestion is inserted, if one is held
abbrev pub suggestion_in : Option (List ℕ) → EditState → EditState
suggestion_in None s = s
suggestion_in (Some text) s = inserted_times s text 1

abbrev pub insert_suggestion : EditState → EditState
insert_suggestion s = suggestion_in s.suggestion s

abbrev pub IsTooLongSuggestion : Option (List ℕ) → EditState → Type 0
IsTooLongSuggestion None s = ⊥
IsTooLongSuggestion (Some text) s = IsTooLong s text 1
