-- What a contract sees of what a window shows: the rows of its lines, and where its cursor stands among them.
use Rattle.std.specs.Prelude.{ℕ, ◌+◌, ◌-◌, ◌<◌, Bool, true, false, List, [], length, take, sum_by, slice_index_or}
use Rattle.std.specs.List.{flat_map}
use Rattle.cell_grid.specs.declared.cell.Cell.{Cell}
use Rattle.win_view.specs.declared.contents.Content.{Content}
use Rattle.win_view.specs.Rows.{rows_of}

-- the line at a place, empty where there is none
abbrev pub line_at : List (List Cell) → ℕ → List Cell
line_at lines at = slice_index_or lines at []

-- the cursor's line and cell are there, and lines and cells are few enough to be counted
pub record IsContent (c : Content) : Type 0 where
  pub line : c.line < length c.lines
  pub cell : c.cell < length (line_at c.lines c.line)
  pub few : length c.lines + sum_by length c.lines < 2147483648

-- the rows of the content: of each line, where lines are wrapped, and else each line
abbrev pub rows_by : Bool → ℕ → List (List Cell) → List (List Cell)
rows_by true width lines = flat_map (rows_of width) lines
rows_by false width lines = lines

abbrev pub content_rows : Content → ℕ → List (List Cell)
content_rows c width = rows_by c.wrap width c.lines

-- the rows of a line up to and with one of its cells
abbrev pub rows_to : ℕ → List Cell → ℕ → List (List Cell)
rows_to width line cell = rows_of width (take (cell + 1) line)

-- the last row
abbrev pub last_row : List (List Cell) → List Cell
last_row rows = line_at rows (length rows - 1)

-- the cursor's row in the content
abbrev pub cursor_row_by : Bool → Content → ℕ → ℕ
cursor_row_by true c width = length (flat_map (rows_of width) (take c.line c.lines)) + length (rows_to width (line_at c.lines c.line) c.cell) - 1
cursor_row_by false c width = c.line

abbrev pub cursor_row : Content → ℕ → ℕ
cursor_row c width = cursor_row_by c.wrap c width

-- the cursor's column in its row
abbrev pub cursor_col_by : Bool → Content → ℕ → ℕ
cursor_col_by true c width = length (last_row (rows_to width (line_at c.lines c.line) c.cell)) - 1
cursor_col_by false c width = c.cell

abbrev pub cursor_col : Content → ℕ → ℕ
cursor_col c width = cursor_col_by c.wrap c width
