-- What a contract sees of a painting: at each place the cell of the last pane there, without halves of wide characters, and the cursor.
use Rattle.std.specs.Prelude.{ℕ, ◌+◌, ◌-◌, Bool, true, false, not, ◌&&◌, List, [], ◌∷◌, map, fold, Option, None, Some, nat_eq, slice_index_or, unwrap_or, if◌then◌else◌}
use Rattle.std.specs.List.{range_with_len}
use Rattle.cell_grid.specs.declared.cell.Cell.{Cell}
use Rattle.cell_grid.specs.declared.cell.Cell.TheVariants.{Lead, Tail}
use Rattle.cell_grid.specs.declared.drawing.Drawing.{Drawing}
use Rattle.cell_grid.specs.Cell.{blank}
use Rattle.cell_grid.specs.Grid.{row_at}
use Rattle.cell_grid.specs.Size.{Extent}
use Rattle.win_view.specs.declared.views.WindowView.{WindowView}
use Rattle.win_view.specs.Views.{viewed_with}
use Rattle.box_layout.specs.declared.areas.Area.{Area}
use Rattle.box_layout.specs.Areas.{whole}
use Rattle.box_layout.specs.Placed.{PlacedFields, holds}

-- what a pane shows at its place
abbrev pub view_of : PlacedFields → WindowView
view_of p = viewed_with p.pane.attrs p.pane.content p.size p.scroll

-- its cell at a place of the drawing
abbrev pub cell_of : PlacedFields → ℕ → ℕ → Cell
cell_of p row col = slice_index_or (row_at (view_of p).grid (row - p.row)) (col - p.col) blank

-- the cell of the last pane that holds a place, else a blank
abbrev pub top_cell : List PlacedFields → ℕ → ℕ → Cell
top_cell placed row col = fold (λ cell p. if holds p row col then cell_of p row col else cell) blank placed

-- the cells of a row from a column on, this many
abbrev pub top_cells : List PlacedFields → ℕ → ℕ → ℕ → List Cell
top_cells placed row from count = map (top_cell placed row) (range_with_len from count)

abbrev pub begins_with_tail : List Cell → Bool
begins_with_tail [] = false
begins_with_tail (Lead text width attrs ∷ rest) = false
begins_with_tail (Tail ∷ rest) = true

-- the cells with a blank in place of each half of a wide character that does not stand beside its other half, where the cell before is a wide Lead or not
abbrev pub mended_after : Bool → List Cell → List Cell
mended_after wide [] = []
mended_after wide (Lead text width attrs ∷ rest) =
    (if nat_eq width 2 && not (begins_with_tail rest) then blank else Lead text width attrs) ∷ mended_after (nat_eq width 2) rest
mended_after true (Tail ∷ rest) = Tail ∷ mended_after false rest
mended_after false (Tail ∷ rest) = blank ∷ mended_after false rest

abbrev pub without_halves : List Cell → List Cell
without_halves cells = mended_after false cells

-- the cells that a row shows from a column on, this many
abbrev pub shown_cells : List PlacedFields → ℕ → ℕ → ℕ → List Cell
shown_cells placed row from count = without_halves (top_cells placed row from count)

-- the rows that are shown in an area
abbrev pub area_rows : List PlacedFields → Area → List (List Cell)
area_rows placed area = map (λ row. shown_cells placed row area.col area.size.cols) (range_with_len area.row area.size.rows)

-- the rows of a drawing of this size
abbrev pub drawn_rows : List PlacedFields → Extent → List (List Cell)
drawn_rows placed size = area_rows placed (whole size)

-- the row and the column of a pane's cursor
abbrev pub cursor_of : PlacedFields → ℕ × ℕ
cursor_of p = (p.row + (view_of p).row, p.col + (view_of p).col)

-- those of the last pane with the focus
abbrev pub cursor : List PlacedFields → Option (ℕ × ℕ)
cursor placed = fold (λ place p. if p.pane.focus then Some (cursor_of p) else place) None placed

-- the drawing; its cursor is at the first place where no pane has the focus
abbrev pub painted : List PlacedFields → Extent → Drawing
painted placed size = record {
  grid = drawn_rows placed size;
  row = (unwrap_or (cursor placed) (0, 0)).0;
  col = (unwrap_or (cursor placed) (0, 0)).1;
}
