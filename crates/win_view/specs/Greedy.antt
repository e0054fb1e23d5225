-- What the law of wrapping says of rows: that each is as long as can be.
use Rattle.std.specs.Prelude.{ℕ, ◌+◌, ◌≤◌, ◌<◌, List, [], ◌∷◌, length}
use Rattle.cell_grid.specs.declared.cell.Cell.{Cell}
use Rattle.cell_grid.specs.Row.{IsWhole}
use Rattle.win_view.specs.FirstRow.{first_columns}

-- a row that parts no wide character and is not longer than the width
pub record IsHeld (width : ℕ) (row : List Cell) : Type 0 where
  pub whole : IsWhole row
  pub fits : length row ≤ width

-- rows of this width, one at least, of which each but the first begins with a character that did not fit behind the row before it
abbrev pub IsGreedy : ℕ → List (List Cell) → Type 0
IsGreedy width [] = ⊥
IsGreedy width (row ∷ []) = IsHeld width row
IsGreedy width (row ∷ next ∷ rows) = IsHeld width row × (width < length row + first_columns next) × IsGreedy width (next ∷ rows)
