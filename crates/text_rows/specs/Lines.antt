-- What a contract sees of the lines that a text is drawn on.
use Rattle.std.specs.Prelude.{ℕ, ◌+◌, ◌-◌, List, [], ◌∷◌, ◌++◌, length, take, drop, slice_range}
use Rattle.cell_grid.specs.declared.cell.Cell.{Cell}
use Rattle.cell_grid.specs.Attrs.{plain}
use Rattle.cell_grid.specs.Cell.{blank}
use Rattle.cell_grid.specs.TextCells.{with_chars}
use Rattle.text_doc.specs.Lines.{lines_of}
use Rattle.text_rows.specs.declared.looks.Looks.{Looks}
use Rattle.text_rows.specs.DrawnText.{TextFields}

-- the cells with those of a line's characters behind them, which are selected from one place of the line up to another
abbrev pub with_line : Looks → ℕ → ℕ → List Cell → List ℕ → List Cell
with_line looks from to cells line =
    with_chars plain looks.control
    (with_chars looks.selected looks.control (with_chars plain looks.control cells (take from line)) (slice_range line from to))
    (drop to line)

-- the cells of a line that begins at this place of the text: those before it, those of its characters and of what stands behind them, and a blank
abbrev pub line_cells : TextFields → List Cell → ℕ → List ℕ → List ℕ → List Cell
line_cells t before start line behind =
    with_chars t.looks.suggestion t.looks.control (with_line t.looks (t.selected_from - start) (t.selected_to - start) before line) behind
    ++ blank ∷ []

-- the lines from one on, which begins at this place of the text and has these cells before it; the suggestion stands behind the last line
abbrev pub lines_from : TextFields → List Cell → ℕ → List (List ℕ) → List (List Cell)
lines_from t before start [] = []
lines_from t before start (line ∷ []) = line_cells t before start line t.suggestion ∷ []
lines_from t before start (line ∷ next ∷ lines) =
    line_cells t before start line [] ∷ lines_from t t.continuation (start + length line + 1) (next ∷ lines)

-- the lines that the text is drawn on
abbrev pub drawn_lines : TextFields → List (List Cell)
drawn_lines t = lines_from t t.message 0 (lines_of t.text)
