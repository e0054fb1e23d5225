-- What the contracts inside this crate see of the first row of a line: how many of the line's cells it takes.
use Rattle.std.specs.Prelude.{ℕ, ◌+◌, ◌≤◌, ◌<◌, List, [], ◌∷◌, length, take, drop}
use Rattle.cell_grid.specs.declared.cell.Cell.{Cell}
use Rattle.cell_grid.specs.declared.cell.Cell.TheVariants.{Lead, Tail}
use Rattle.cell_grid.specs.Row.{IsWhole}
use Rattle.win_view.specs.Rows.{holdable}

-- the columns of the character at the start
abbrev pub first_columns : List Cell → ℕ
first_columns [] = 0
first_columns (Lead text columns attrs ∷ cells) = columns
first_columns (Tail ∷ cells) = 0

-- so many cells are the first row: no wide character is parted, they fit, and the next character does not
pub record IsFirstRow (width : ℕ) (cells : List Cell) (count : ℕ) : Type 0 where
  pub within : count ≤ length cells
  pub front : IsWhole (take count cells)
  pub back : IsWhole (drop count cells)
  pub fits : length (holdable width (take count cells)) ≤ width
  pub full : count < length cells → width < length (holdable width (take count cells)) + first_columns (holdable width (drop count cells))
