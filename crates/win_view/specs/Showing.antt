-- What the contracts inside this crate see of the rows of a content that are laid one by one into a part of a grid.
use Rattle.std.specs.Prelude.{◌≡◌, ℕ, ◌+◌, ◌-◌, ◌≤◌, Bool, true, false, List, ◌++◌, length, map, replicate, take, drop, nat_lt, slice_set}
use Rattle.cell_grid.specs.declared.cell.Cell.{Cell}
use Rattle.cell_grid.specs.Grid.{columns, row_at}
use Rattle.cell_grid.specs.Row.{IsWhole, laid_at}
use Rattle.win_view.specs.declared.layings.Laying.{Laying}
use Rattle.win_view.specs.declared.viewports.Viewport.{Viewport}
use Rattle.win_view.specs.Views.{spaces}

-- the part before the first row of the content comes
pub record IsStart (viewport : Viewport) (l : Laying) : Type 0 where
  pub spaces : l.spaces.items ≡ spaces viewport.behind viewport.size.cols
  pub row : l.row ≡ viewport.row
  pub end : l.end ≡ viewport.row + viewport.size.rows
  pub col : l.col ≡ viewport.col

-- the grid has room for the part
pub record HasRoom (l : Laying) (grid : List (List Cell)) : Type 0 where
  pub some : 1 ≤ length l.spaces.items
  pub whole : (count : ℕ) → IsWhole (drop count l.spaces.items)
  pub right : l.col + length l.spaces.items ≤ columns grid
  pub few_cols : columns grid ≤ 1000
  pub within : l.row ≤ l.end
  pub below : l.end ≤ length grid
  pub few_rows : length grid ≤ 1000

-- cells with the last of these spaces behind them
abbrev pub over_spaces : List Cell → List Cell → List Cell
over_spaces spaces cells = cells ++ drop (length cells) spaces

-- the grid with these cells in its next row of the part, and spaces behind them
abbrev pub with_row : Laying → List (List Cell) → List Cell → List (List Cell)
with_row l grid cells = slice_set grid l.row (laid_at (row_at grid l.row) l.col (over_spaces l.spaces.items cells))

-- the laying and the grid where one row more of the content has come: above the part it is counted, in the part it is laid, and below it nothing changes
abbrev pub passed_by : Bool → Bool → Laying → List (List Cell) → List Cell → Laying × List (List Cell)
passed_by true inside l grid cells = (record l { above = l.above - 1 }, grid)
passed_by false true l grid cells = (record l { row = l.row + 1 }, with_row l grid cells)
passed_by false false l grid cells = (l, grid)

-- the same, where the laying says which of these it is
abbrev pub passed : Laying × List (List Cell) → List Cell → Laying × List (List Cell)
passed (l, grid) cells = passed_by (nat_lt 0 l.above) (nat_lt l.row l.end) l grid cells

-- the rows that the part shows where these of the content come and so many of them are above it
abbrev pub shown_of : Laying → ℕ → List (List Cell) → List (List Cell)
shown_of l above rows = take (l.end - l.row) (drop above rows)

-- the rows of the part: those that are shown, and spaces behind them
abbrev pub part_of : Laying → List (List Cell) → List (List Cell)
part_of l shown = map (over_spaces l.spaces.items) shown ++ replicate (l.end - l.row - length shown) l.spaces.items
