-- The facts that hold of an edit state. How keys are read is none of them.
use Rattle.std.specs.Prelude.{ℕ, Bool, false, true, not, ◌&&◌, ◌==◌, List, [], ◌∷◌, length, Option, None, Some, is_some}
use Rattle.key_proc.specs.declared.facts.Fact.{Fact}
use Rattle.key_proc.specs.declared.facts.Fact.TheVariants.{Emacs, Insert, Navigation, Replace, Operator, Selection, Menu, Searching, Argument, Multiline, Suggestion, Empty}
use Rattle.text_doc.specs.Document.{Document}
use Rattle.edit_state.specs.declared.states.EditState.{EditState}

-- there is no character
abbrev pub is_empty : List ℕ → Bool
is_empty [] = true
is_empty (c ∷ text) = false

-- a suggestion with a character is held, and the cursor is at the end of the text
abbrev pub suggested : Option (List ℕ) → Document → Bool
suggested None doc = false
suggested (Some text) doc = not (is_empty text) && doc.cursor == length doc.text

abbrev pub suggests : EditState → Bool
suggests s = suggested s.suggestion s.buffer.doc

-- whether a fact holds
abbrev pub holds_in : EditState → Fact → Bool
holds_in s Selection = is_some s.buffer.doc.mark
holds_in s Menu = is_some s.buffer.menu
holds_in s Searching = is_some s.search
holds_in s Argument = is_some s.arg
holds_in s Multiline = s.multiline
holds_in s Suggestion = suggests s
holds_in s Empty = is_empty s.buffer.doc.text
holds_in s Emacs = false
holds_in s Insert = false
holds_in s Navigation = false
holds_in s Replace = false
holds_in s Operator = false
