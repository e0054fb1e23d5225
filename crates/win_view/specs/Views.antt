-- What a contract sees of a view: the rows that a window shows, and its cursor.
use Rattle.std.specs.Prelude.{ℕ, ◌-◌, Bool, true, false, List, [], ◌∷◌, ◌++◌, length, map, replicate, take, drop, slice_index_or, if◌then◌else◌}
use Rattle.cell_grid.specs.declared.attrs.Attrs.{Attrs}
use Rattle.cell_grid.specs.declared.cell.Cell.{Cell}
use Rattle.cell_grid.specs.declared.cell.Cell.TheVariants.{Lead, Tail}
use Rattle.cell_grid.specs.Attrs.{plain}
use Rattle.cell_grid.specs.Cell.{blank, is_wide, narrow}
use Rattle.cell_grid.specs.Size.{Extent}
use Rattle.win_view.specs.declared.contents.Content.{Content}
use Rattle.win_view.specs.declared.scrolls.Scroll.{Scroll}
use Rattle.win_view.specs.declared.views.WindowView.{WindowView}
use Rattle.win_view.specs.Contents.{content_rows, cursor_row, cursor_col}

-- the attributes of a cell; a Tail has those of its Lead, which stands before it
abbrev pub attrs_of : Cell → Attrs
attrs_of (Lead text width attrs) = attrs
attrs_of Tail = plain

-- a space in place of half a character
abbrev pub half_of : Attrs → Cell
half_of attrs = narrow 32 attrs

-- the back of a line that is cut behind a cell: a Tail that lost its Lead is a space with the Lead's attributes
abbrev pub spaced_start : Attrs → List Cell → List Cell
spaced_start attrs [] = []
spaced_start attrs (Lead text width own ∷ cells) = Lead text width own ∷ cells
spaced_start attrs (Tail ∷ cells) = half_of attrs ∷ cells

-- a cell whose next one is cut off: a wide Lead is a space with its attributes
abbrev pub spaced : Cell → Cell
spaced cell = if is_wide cell then half_of (attrs_of cell) else cell

-- the front of a line that is cut
abbrev pub spaced_end : List Cell → List Cell
spaced_end [] = []
spaced_end (cell ∷ []) = spaced cell ∷ []
spaced_end (cell ∷ next ∷ cells) = cell ∷ spaced_end (next ∷ cells)

-- the columns of a line from one on, this many
abbrev pub columns_from : ℕ → ℕ → List Cell → List Cell
columns_from across width line = spaced_end (take width (spaced_start (attrs_of (slice_index_or line (across - 1) blank)) (drop across line)))

-- a row of the window: lines that are not wrapped are cut at its edges
abbrev pub cut_by : Bool → ℕ → ℕ → List Cell → List Cell
cut_by true across width row = row
cut_by false across width row = columns_from across width row

-- spaces with these attributes
abbrev pub spaces : Attrs → ℕ → List Cell
spaces attrs count = replicate count (narrow 32 attrs)

-- the row filled up with such spaces
abbrev pub filled_with : Attrs → ℕ → List Cell → List Cell
filled_with attrs width row = row ++ spaces attrs (width - length row)

-- the row filled up with blanks
abbrev pub filled : ℕ → List Cell → List Cell
filled width row = filled_with plain width row

-- the rows of the content that the window shows
abbrev pub shown_rows : Content → Extent → Scroll → List (List Cell)
shown_rows c size scroll = take size.rows (drop scroll.down (content_rows c size.cols))

-- the rows of the window: those, and behind the content spaces with these attributes
abbrev pub window_rows_with : Attrs → Content → Extent → Scroll → List (List Cell)
window_rows_with attrs c size scroll =
    map (λ row. filled_with attrs size.cols (cut_by c.wrap scroll.across size.cols row)) (shown_rows c size scroll)
    ++ replicate (size.rows - length (shown_rows c size scroll)) (spaces attrs size.cols)

-- the rows of the window where blanks stand behind the content
abbrev pub window_rows : Content → Extent → Scroll → List (List Cell)
window_rows c size scroll = window_rows_with plain c size scroll

-- the cursor's row in the window
abbrev pub seen_row : Content → ℕ → ℕ → ℕ
seen_row c width down = cursor_row c width - down

-- the cursor's column in the window
abbrev pub seen_col : Bool → Content → ℕ → ℕ → ℕ
seen_col true c width across = cursor_col c width
seen_col false c width across = cursor_col c width - across

-- the view of a window of this size, where spaces with these attributes stand behind the content
abbrev pub viewed_with : Attrs → Content → Extent → Scroll → WindowView
viewed_with attrs c size scroll = record {
  grid = window_rows_with attrs c size scroll;
  row = seen_row c size.cols scroll.down;
  col = seen_col c.wrap c size.cols scroll.across;
}

-- the view of a window of this size, where blanks stand behind the content
abbrev pub viewed : Content → Extent → Scroll → WindowView
viewed c size scroll = viewed_with plain c size scroll
