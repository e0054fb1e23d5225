-- What a contract sees of an area: a rectangle of a drawing, by its first row and column and its size.
use Rattle.std.specs.Prelude.{ℕ, ◌+◌, ◌≤◌, Bool, true, false, ◌==◌, ◌||◌, Option, None, Some, if◌then◌else◌}
use Rattle.cell_grid.specs.Size.{Extent}
use Rattle.box_layout.specs.declared.areas.Area.{Area}

-- all of a drawing
abbrev pub whole : Extent → Area
whole size = record { row = 0; col = 0; size = size }

-- an area lies inside another
pub record IsInside (outer inner : Area) : Type 0 where
  pub above : outer.row ≤ inner.row
  pub below : inner.row + inner.size.rows ≤ outer.row + outer.size.rows
  pub left : outer.col ≤ inner.col
  pub right : inner.col + inner.size.cols ≤ outer.col + outer.size.cols

-- how many columns, or rows, an area has
abbrev pub room_of : Bool → Area → ℕ
room_of true area = area.size.cols
room_of false area = area.size.rows

-- the part of an area that begins after so many of its columns, or rows, and has so many of them
abbrev pub part_of : Bool → Area → ℕ → ℕ → Area
part_of true area before count = record { row = area.row; col = area.col + before; size = record { rows = area.size.rows; cols = count } }
part_of false area before count = record { row = area.row + before; col = area.col; size = record { rows = count; cols = area.size.cols } }

-- an area of so many rows and columns from a place on; none where these are 0
abbrev pub area_from : ℕ → ℕ → ℕ → ℕ → Option Area
area_from row col rows cols =
    if rows == 0 || cols == 0 then None
    else Some (record { row = row; col = col; size = record { rows = rows; cols = cols } })

-- an area that is not empty lies in the largest drawing
pub record IsDrawable (area : Area) : Type 0 where
  pub some : 1 ≤ area.size.rows
  pub below : area.row + area.size.rows ≤ 500
  pub right : area.col + area.size.cols ≤ 1000
