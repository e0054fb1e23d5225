-- How far the lines of a history file are read.
use Rattle.std.specs.Prelude.{ℕ, ◌+◌, Bool, true, false, List, [], ◌∷◌, ◌++◌, take, filter, Option, None, Some}
use Rattle.text_doc.specs.declared.documents.TheConstants.{MAX_LENGTH}
use Rattle.line_history.specs.History.{is_entry_line, is_short, line_text}

-- the entries that ended, and the text of the entry whose lines are being read
pub record Progress : Type 0 where
  pub entries : List (List ℕ)
  pub unfinished : Option (List ℕ)

-- the front of a text, which is long enough to tell that the text is too long
abbrev pub front : List ℕ → List ℕ
front text = take (MAX_LENGTH + 1) text

-- what a further line of an entry is put behind
abbrev pub before_line : Option (List ℕ) → List ℕ
before_line None = []
before_line (Some text) = text ++ 10 ∷ []

-- an unfinished text, or none, and one more line
abbrev pub extended : Option (List ℕ) → List ℕ → List ℕ
extended unfinished chars = front (before_line unfinished ++ chars)

-- the entries that an unfinished text makes where it ends: one, or none where it is too long
abbrev pub kept : Option (List ℕ) → List (List ℕ)
kept None = []
kept (Some text) = filter is_short (text ∷ [])

-- the entries where nothing follows
abbrev pub ended : Progress → List (List ℕ)
ended p = p.entries ++ kept p.unfinished

-- after a line of an entry, or after another line
abbrev pub after_line_if : Bool → Progress → List ℕ → Progress
after_line_if true p line = record { entries = p.entries; unfinished = Some (extended p.unfinished (line_text line)) }
after_line_if false p line = record { entries = ended p; unfinished = None }

-- after one more line
abbrev pub after_line : Progress → List ℕ → Progress
after_line p line = after_line_if (is_entry_line line) p line

-- after some more lines
abbrev pub after_lines : Progress → List (List ℕ) → Progress
after_lines p [] = p
after_lines p (line ∷ lines) = after_lines (after_line p line) lines
