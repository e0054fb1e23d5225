-- What a change of its size does to a terminal.
use Rattle.std.specs.Prelude.{ℕ, ◌+◌, ◌-◌, false, List, ◌++◌, None, length, take, map, min}
use Rattle.cell_grid.specs.declared.cell.Cell.{Cell}
use Rattle.cell_grid.specs.Row.{mend_end, blank_row}
use Rattle.cell_grid.specs.Grid.{blank_rows}
use Rattle.cell_grid.specs.Size.{Extent}
use Rattle.term_model.specs.Term.{Term}

-- a line cut to some columns, where a wide character that is cut becomes blank, or padded with blanks
abbrev pub fitted_line : ℕ → List Cell → List Cell
fitted_line cols line = mend_end (take cols line) ++ blank_row (cols - length line)

-- so many lines of so many columns: those behind are dropped, and blank ones are added where there are fewer
abbrev pub fitted_lines : ℕ → ℕ → List (List Cell) → List (List Cell)
fitted_lines count cols lines = map (fitted_line cols) (take count lines) ++ blank_rows (count - length lines) cols

-- by how many lines the window moves down, so that the cursor's line stays in it
abbrev pub rows_lost : Term → Extent → ℕ
rows_lost t size = t.row + 1 - size.rows

-- the terminal at its new size
abbrev pub resized : Term → Extent → Term
resized t size = record t {
  rows = size.rows;
  cols = size.cols;
  lines = fitted_lines (t.top + rows_lost t size + size.rows) size.cols t.lines;
  top = t.top + rows_lost t size;
  row = t.row - rows_lost t size;
  col = min t.col (size.cols - 1);
  pending = false;
  last = None;
}
