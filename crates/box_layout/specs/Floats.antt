-- What a contract sees of floats: the area of each, over what stands in its box before it.
use Rattle.std.specs.Prelude.{ℕ, ◌+◌, ◌-◌, min, Bool, false, not, ◌&&◌, ◌==◌, List, [], ◌∷◌, ◌++◌, drop, fold, Option, None, Some, nat_le, nat_lt, if◌then◌else◌}
use Rattle.std.specs.List.{list_all}
use Rattle.cell_grid.specs.Cell.{blank, same_cell}
use Rattle.box_layout.specs.declared.areas.Area.{Area}
use Rattle.box_layout.specs.declared.nodes.Float.{Float}
use Rattle.box_layout.specs.declared.nodes.FloatPlace.{FloatPlace}
use Rattle.box_layout.specs.declared.nodes.FloatPlace.TheVariants.{TopRight, Near}
use Rattle.box_layout.specs.Areas.{area_from}
use Rattle.box_layout.specs.Panes.{PaneFields}
use Rattle.box_layout.specs.Placed.{PlacedFields, placed_at}
use Rattle.box_layout.specs.Painting.{shown_cells, cursor}

-- an area in a box, by its first row and column in the box and its size; none where it has no place
abbrev pub area_in : Area → ℕ → ℕ → ℕ → ℕ → Option Area
area_in box row col rows cols = area_from (box.row + row) (box.col + col) rows cols

-- the first row and the height of a float near a row, of which it asks for `height` and so many are below: below the row where it fits or the rows below are no fewer than those above, else above it
abbrev pub near_rows : ℕ → ℕ → ℕ → ℕ × ℕ
near_rows row below height =
    if nat_le height below then (row + 1, height)
    else if nat_le row below then (row + 1, below)
    else (row - min height row, min height row)

-- the columns of a float near a place: as many as it asks for, at most those of the box
abbrev pub near_cols : Area → PaneFields → ℕ
near_cols box pane = min pane.width.preferred box.size.cols

-- near a place of the box, moved left to fit; none where the place is outside
abbrev pub near_area : Area → ℕ → ℕ → PaneFields → Option Area
near_area box row col pane =
    if nat_lt row box.size.rows && nat_lt col box.size.cols then
    area_in box (near_rows row (box.size.rows - 1 - row) pane.height.preferred).0
    (min col (box.size.cols - near_cols box pane))
    (near_rows row (box.size.rows - 1 - row) pane.height.preferred).1
    (near_cols box pane)
    else None

-- whether a cursor stands in a row from a column on
abbrev pub is_from : Option (ℕ × ℕ) → ℕ → ℕ → ℕ → Bool
is_from None row col count = false
is_from (Some (cursor_row, cursor_col)) row col count = cursor_row == row && (nat_le col cursor_col && nat_lt cursor_col (col + count))

-- whether the last columns of a box's first row are blanks without the cursor, where these panes are shown
abbrev pub is_free : List PlacedFields → Area → ℕ → Bool
is_free placed box count =
    list_all (λ cell. same_cell cell blank) (drop (box.size.cols - count) (shown_cells placed box.row box.col box.size.cols))
    && not (is_from (cursor placed) box.row (box.col + box.size.cols - count) count)

-- at the right end of the first row, as wide as the pane asks for, where this fits and is free
abbrev pub top_right_area : List PlacedFields → Area → PaneFields → Option Area
top_right_area placed box pane =
    if nat_le pane.width.preferred box.size.cols && is_free placed box pane.width.preferred then
    area_in box 0 (box.size.cols - pane.width.preferred) 1 pane.width.preferred
    else None

abbrev pub float_area : List PlacedFields → Area → PaneFields → FloatPlace → Option Area
float_area placed box pane TopRight = top_right_area placed box pane
float_area placed box pane (Near row col) = near_area box row col pane

-- the panes with one more in an area, if there is one
abbrev pub with_pane : List PlacedFields → PaneFields → Option Area → List PlacedFields
with_pane placed pane None = placed
with_pane placed pane (Some area) = placed ++ placed_at pane area ∷ []

-- the panes of a box with its floats behind them, in their order
abbrev pub with_floats : Area → List PlacedFields → List Float → List PlacedFields
with_floats box placed floats =
    fold (λ before float. with_pane before float.pane (float_area before box float.pane float.place)) placed floats
