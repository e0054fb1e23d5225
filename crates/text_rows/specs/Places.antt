-- What a contract sees of a place of a text on the lines that it is drawn on, and of what a window shows of them.
use Rattle.std.specs.Prelude.{ℕ, zero, suc, ◌-◌, Bool, List, [], length, take, slice_index_or}
use Rattle.cell_grid.specs.declared.cell.Cell.{Cell}
use Rattle.cell_grid.specs.Attrs.{plain}
use Rattle.cell_grid.specs.TextCells.{with_chars}
use Rattle.text_doc.specs.Lines.{lines_of}
use Rattle.win_view.specs.declared.contents.Content.{Content}
use Rattle.text_rows.specs.DrawnText.{TextFields}
use Rattle.text_rows.specs.Lines.{drawn_lines}

-- the last of some lines
abbrev pub last_line : List (List ℕ) → List ℕ
last_line lines = slice_index_or lines (length lines - 1) []

-- the number of the line that holds a place: how many lines end before it
abbrev pub place_line : TextFields → ℕ → ℕ
place_line t at = length (lines_of (take at t.text)) - 1

-- the cells before the characters of the line with this number
abbrev pub cells_before : TextFields → ℕ → List Cell
cells_before t zero = t.message
cells_before t (suc line) = t.continuation

-- the place's cell in its line: the first one behind the cells of what stands before the place; a character that joins the cell before it has none of its own
abbrev pub place_cell : TextFields → ℕ → ℕ
place_cell t at =
    length (with_chars plain plain (cells_before t (place_line t at)) (last_line (lines_of (take at t.text))))

-- what a window shows of the text, with its cursor at a place
abbrev pub content_at : TextFields → ℕ → Bool → Content
content_at t at wrap = record { lines = drawn_lines t; line = place_line t at; cell = place_cell t at; wrap = wrap }
