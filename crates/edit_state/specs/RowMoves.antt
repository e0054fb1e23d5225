-- What moves by rows make of an edit state. The first of them keeps the cursor's column for those after it.
use Rattle.std.specs.Prelude.{ℕ, ◌-◌, Option, None, Some, unwrap_or}
use Rattle.text_doc.specs.Document.{Document}
use Rattle.text_doc.specs.Rows.{line_start, up, down}
use Rattle.edit_state.specs.declared.states.EditState.{EditState}
use Rattle.edit_state.specs.StateEdits.{gone_to}

-- the column of the cursor
abbrev pub column_of : Document → ℕ
column_of d = d.cursor - line_start d.text d.cursor

-- the column that a move by rows goes to
abbrev pub kept_column : EditState → ℕ
kept_column s = unwrap_or s.column (column_of s.buffer.doc)

-- the state at a place of another row, or as it was where there is none
abbrev pub moved_to_row : EditState → Option ℕ → EditState
moved_to_row s None = s
moved_to_row s (Some at) = record (gone_to s at) { column = Some (kept_column s) }

-- the place so many rows up or down
abbrev pub place_up : EditState → ℕ → Option ℕ
place_up s count = up s.buffer.doc.text s.buffer.doc.cursor count (kept_column s)

abbrev pub place_down : EditState → ℕ → Option ℕ
place_down s count = down s.buffer.doc.text s.buffer.doc.cursor count (kept_column s)

abbrev pub rows_up : EditState → ℕ → EditState
rows_up s count = moved_to_row s (place_up s count)

abbrev pub rows_down : EditState → ℕ → EditState
rows_down s count = moved_to_row s (place_down s count)
