-- The state of a terminal: all lines that it was ever given, the window on the last of them, the cursor, the pen and the modes.
use Rattle.std.specs.Prelude.{◌≡◌, ℕ, ◌+◌, ◌<◌, Bool, true, false, List, Option, None, length, IfSome, IsSomeAnd, slice_get}
use Rattle.cell_grid.specs.declared.attrs.Attrs.{Attrs}
use Rattle.cell_grid.specs.declared.cell.Cell.{Cell}
use Rattle.cell_grid.specs.Attrs.{plain}
use Rattle.cell_grid.specs.Cell.{IsLead}
use Rattle.cell_grid.specs.Grid.{blank_rows, row_at, AllRows}
use Rattle.cell_grid.specs.Size.{Extent, IsScreen}

pub record Term : Type 0 where
  -- the size of the window
  pub rows : ℕ
  pub cols : ℕ
  -- the lines, and the first of them that is visible
  pub lines : List (List Cell)
  pub top : ℕ
  -- the cursor in the window
  pub row : ℕ
  pub col : ℕ
  -- the attributes of what is printed next
  pub pen : Attrs
  -- autowrap (DECAWM), whether the cursor is visible (DECTCEM), and bracketed paste
  pub wraps : Bool
  pub visible : Bool
  pub pasting : Bool
  -- whether a character was printed in the last column, so that the next one begins a line
  pub pending : Bool
  -- the line and the column of the place printed last
  pub last : Option (ℕ × ℕ)

-- the terminal of this size on which nothing was printed
abbrev pub start_of : Extent → Term
start_of size = record {
  rows = size.rows;
  cols = size.cols;
  lines = blank_rows size.rows size.cols;
  top = 0;
  row = 0;
  col = 0;
  pen = plain;
  wraps = true;
  visible = true;
  pasting = false;
  pending = false;
  last = None;
}

-- a Lead stands at this line and column
abbrev pub HasLead : List (List Cell) → ℕ × ℕ → Type 0
HasLead lines place = IsSomeAnd (slice_get (row_at lines place.0) place.1) IsLead

-- what holds of each terminal
pub record IsTerminal (t : Term) : Type 0 where
  pub size : IsScreen t.rows t.cols
  pub count : length t.lines ≡ t.top + t.rows
  pub wide : AllRows t.cols t.lines
  pub row : t.row < t.rows
  pub col : t.col < t.cols
  pub last : IfSome t.last (HasLead t.lines)
