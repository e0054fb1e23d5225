-- Where moves by characters go. They stay in the row.
use Rattle.std.specs.Prelude.{ℕ, ◌+◌, ◌-◌, min, max}
use Rattle.text_doc.specs.Document.{Document}
use Rattle.text_doc.specs.Rows.{line_start, line_end}
use Rattle.edit_state.specs.declared.arguments.Amount.{Amount}
use Rattle.edit_state.specs.declared.arguments.Amount.TheVariants.{Forward, Backward}

-- so many characters before the cursor, or the start of its row
abbrev pub place_back : Document → ℕ → ℕ
place_back d count = max (line_start d.text d.cursor) (d.cursor - count)

-- so many characters behind the cursor, or the end of its row
abbrev pub place_ahead : Document → ℕ → ℕ
place_ahead d count = min (line_end d.text d.cursor) (d.cursor + count)

abbrev pub place_by_chars : Document → Amount → ℕ
place_by_chars d (Forward count) = place_ahead d count
place_by_chars d (Backward count) = place_back d count
