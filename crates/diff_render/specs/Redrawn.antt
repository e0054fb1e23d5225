-- What a contract sees of a drawing's lines that are redrawn.
use Rattle.std.specs.Prelude.{◌≡◌, ℕ, ◌+◌, ◌-◌, ◌*◌, ◌≤◌, Bool, true, List, ◌++◌, length, take, drop, max, nat_lt}
use Rattle.std.specs.Prelude.{if◌then◌else◌, ◌<◌, false}
use Rattle.cell_grid.specs.declared.cell.Cell.{Cell}
use Rattle.cell_grid.specs.Row.{blank_row}
use Rattle.cell_grid.specs.Cell.{same_cell}
use Rattle.cell_grid.specs.Grid.{blank_rows, columns, row_at}
use lib.Pointwise.{pointwise}
use Rattle.diff_render.specs.Canvas.{Canvas}
use Rattle.diff_render.specs.Changes.{is_changed, changed_rows}
use Rattle.diff_render.specs.Writer.{written, IsPlaced, IsSameScreen, Stood}
use Rattle.diff_render.specs.declared.writer.Writer.{Writer}

-- the rows of a drawing, and blank ones behind them up to a height
abbrev pub padded : ℕ → ℕ → List (List Cell) → List (List Cell)
padded height cols rows = rows ++ blank_rows (height - length rows) cols

-- a row of a drawing, or a blank one where it has none
abbrev pub line_at : ℕ → List (List Cell) → ℕ → List Cell
line_at cols rows at = if nat_lt at (length rows) then row_at rows at else blank_row cols

-- where two drawings differ, a place passes
abbrev pub MayTouchRows : (ℕ → ℕ → Bool) → List (List Cell) → List (List Cell) → Type 0
MayTouchRows ok old new = (row col : ℕ) → is_changed old new row col ≡ true → ok row col ≡ true

-- blank lines come behind the others up to a height, and the writer stands on the last of them
pub record GrowsTo (w v : Writer) (height : ℕ) : Type 0 where
  pub stands : (ok : ℕ → ℕ → Bool) (from : Canvas) (lines : List (List Cell)) → Stood ok w from lines
      → Stood ok v from (lines ++ blank_rows (height - w.height) w.cols)
  pub to_row : v.row + 1 ≡ height
  pub to_pen : v.pen ≡ w.pen
  pub rows : v.rows ≡ w.rows
  pub cols : v.cols ≡ w.cols
  pub to_height : v.height ≡ height
  pub placed : IsPlaced v
  pub short : length (written v) ≤ length (written w) + (height - w.height)

-- a writer has redrawn the lines from one on and before another: what is left is paid already
pub record RowsSoFar (w v : Writer) (old new : List (List Cell)) (first at : ℕ) : Type 0 where
  pub stands : (ok : ℕ → ℕ → Bool) (from : Canvas) → MayTouchRows ok old new → Stood ok w from (padded w.height w.cols old)
      → Stood ok v from (take at (padded w.height w.cols new) ++ drop at (padded w.height w.cols old))
  pub same : IsSameScreen w v
  pub placed : IsPlaced v
  pub short : length (written v) + (at - v.row) + 128 * changed_rows w.cols (drop at (padded w.height w.cols old)) (drop at (padded w.height w.cols new))
      ≤ length (written w) + 7 * (at - first) + 128 * changed_rows w.cols (padded w.height w.cols old) (padded w.height w.cols new)

-- a writer has made the lines of a drawing those of another one
pub record Redrawn (w v : Writer) (old new : List (List Cell)) : Type 0 where
  pub stands : (ok : ℕ → ℕ → Bool) (from : Canvas) → MayTouchRows ok old new → Stood ok w from old → Stood ok v from (padded v.height w.cols new)
  pub rows : v.rows ≡ w.rows
  pub cols : v.cols ≡ w.cols
  pub to_height : v.height ≡ max (length old) (length new)
  pub placed : IsPlaced v
  pub short : length (written v) ≤ length (written w) + 8 * v.height + 9 + 128 * changed_rows w.cols old new

-- all rows of a drawing from one on are blank
abbrev pub IsBlankBelow : ℕ → List (List Cell) → Type 0
IsBlankBelow at rows = (k : ℕ) → at ≤ k → k < length rows → row_at rows k ≡ blank_row (columns rows)

-- the row of this number is not blank
abbrev pub IsDrawnRow : ℕ → List (List Cell) → Type 0
IsDrawnRow at rows = pointwise same_cell (row_at rows at) (blank_row (columns rows)) ≡ false

-- something changes from a row on
abbrev pub IsErasedBelow : ℕ → ℕ → ℕ → List (List Cell) → List (List Cell) → Type 0
IsErasedBelow height cols end old new = 1 ≤ changed_rows cols (drop end (padded height cols old)) (drop end (padded height cols new))
