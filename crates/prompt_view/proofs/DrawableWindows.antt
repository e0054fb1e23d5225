-- Each cell that windows show can be drawn, where each cell of their lines can.
use Prim.Native.Nat.{zero, suc}
use Rattle.std.proofs.Common.{Bool, true, false, not, ◌&&◌, if◌then◌else◌, ℕ, ◌+◌, ◌-◌, nat_eq, get_or, List, [], ◌∷◌, length, map, take, drop, replicate, fold, All, Option, Some, None, arith}
use Rattle.std.specs.List.{flat_map, range_with_len}
use Rattle.std.proofs.lemmas.List.Elements.{All-append, All-cons, All-drop, All-head, All-nil, All-replicate, All-tail, All-take}
use Rattle.cell_grid.specs.declared.attrs.Attrs.{Attrs}
use Rattle.cell_grid.specs.declared.cell.Cell.{Cell}
use Rattle.cell_grid.specs.declared.cell.Cell.TheVariants.{Lead, Tail}
use Rattle.cell_grid.specs.Attrs.{plain}
use Rattle.cell_grid.specs.Cell.{blank, is_wide}
use Rattle.cell_grid.specs.Drawable.{AllRowsDrawable, IsDrawable, IsPen}
use Rattle.cell_grid.specs.Grid.{row_at}
use Rattle.cell_grid.specs.Size.{Extent}
use Rattle.box_layout.specs.declared.areas.Area.{Area}
use Rattle.box_layout.specs.declared.nodes.Float.{Float}
use Rattle.box_layout.specs.Floats.{float_area, with_floats, with_pane}
use Rattle.box_layout.specs.Painting.{begins_with_tail, cell_of, drawn_rows, mended_after, shown_cells, top_cell, top_cells, view_of}
use Rattle.box_layout.specs.Panes.{PaneFields}
use Rattle.box_layout.specs.Placed.{PlacedFields, holds, placed_at}
use Rattle.win_view.specs.declared.contents.Content.{Content}
use Rattle.win_view.specs.declared.scrolls.Scroll.{Scroll}
use Rattle.win_view.specs.Contents.{rows_by}
use Rattle.win_view.specs.Rows.{rows_of}
use Rattle.win_view.specs.Views.{attrs_of, columns_from, cut_by, filled_with, half_of, shown_rows, spaced, spaced_end, spaced_start, spaces, window_rows_with}
use Rattle.win_view.proofs.CellLaws.{HoldsOfAdded, cells-rows_of}
use Rattle.prompt_view.proofs.DrawableCells.{narrow_drawable, replacement_drawable, rows_drawable}

-- each cell of a row can be drawn, and each row
abbrev pub DrawsRow : List Cell → Type 0
DrawsRow cells = All IsDrawable cells

abbrev pub DrawsRows : List (List Cell) → Type 0
DrawsRows rows = All DrawsRow rows

-- what a window puts in and what it shows can be drawn
pub record DrawsPane (pane : PaneFields) : Type 0 where
  pub pen : IsPen pane.attrs
  pub lines : DrawsRows pane.content.lines

pub at_all : {X : Type 0} (P : X → Type 0) (xs : List X) (at : ℕ) (other : X) → All P xs → P other → P (get_or xs at other)
at_all P [] at other all one = one
at_all P (x ∷ xs) zero other all one = All-head P x xs all
at_all P (x ∷ xs) (suc at) other all one = at_all P xs at other (All-tail P x xs all) one

pub of_range : {X : Type 0} (P : X → Type 0) (f : ℕ → X) (from count : ℕ) → ((at : ℕ) → P (f at)) → All P (map f (range_with_len from count))
of_range P f from zero each = All-nil P
of_range P f from (suc count) each = All-cons P (f from) (map f (range_with_len (from + 1) count)) (each from) (of_range P f (from + 1) count each)

pub plain_pen : IsPen plain
plain_pen = (tt, tt)

pub space_drawable : (attrs : Attrs) → IsPen attrs → IsDrawable (half_of attrs)
space_drawable attrs pen = narrow_drawable 32 attrs pen (omega arith) (omega arith)

pub added : HoldsOfAdded IsDrawable
added = record {
  blank = space_drawable plain plain_pen;
  narrowed = λ text attrs drawable. replacement_drawable attrs drawable.1;
}

-- ---- the columns of a line

pen_of : (cell : Cell) → IsDrawable cell → IsPen (attrs_of cell)
pen_of (Lead text width attrs) drawable = drawable.1
pen_of Tail drawable = plain_pen

start_drawable : (attrs : Attrs) (cells : List Cell) → IsPen attrs → DrawsRow cells → DrawsRow (spaced_start attrs cells)
start_drawable attrs [] pen all = all
start_drawable attrs (Lead text width own ∷ cells) pen all = all
start_drawable attrs (Tail ∷ cells) pen all = All-cons IsDrawable (half_of attrs) cells (space_drawable attrs pen) (All-tail IsDrawable Tail cells all)

spaced_drawable : (cell : Cell) → IsDrawable cell → IsDrawable (spaced cell)
spaced_drawable cell drawable = by (is_wide cell)
  where
    by : (b : Bool) → IsDrawable (if b then half_of (attrs_of cell) else cell)
    by true = space_drawable (attrs_of cell) (pen_of cell drawable)
    by false = drawable

end_drawable : (cells : List Cell) → DrawsRow cells → DrawsRow (spaced_end cells)
end_drawable [] all = all
end_drawable (cell ∷ []) all = All-cons IsDrawable (spaced cell) [] (spaced_drawable cell (All-head IsDrawable cell [] all)) (All-nil IsDrawable)
end_drawable (cell ∷ next ∷ cells) all =
    All-cons IsDrawable cell (spaced_end (next ∷ cells)) (All-head IsDrawable cell (next ∷ cells) all) (end_drawable (next ∷ cells) (All-tail IsDrawable cell (next ∷ cells) all))

columns_drawable : (across width : ℕ) (line : List Cell) → DrawsRow line → DrawsRow (columns_from across width line)
columns_drawable across width line all =
    let before = get_or line (across - 1) blank in
    let start = spaced_start (attrs_of before) (drop across line) in
    end_drawable (take width start)
    (All-take IsDrawable width start (start_drawable (attrs_of before) (drop across line) (pen_of before (at_all IsDrawable line (across - 1) blank all added.blank)) (All-drop IsDrawable across line all)))

-- ---- the rows of a window

cut_drawable : (wrap : Bool) (across width : ℕ) (row : List Cell) → DrawsRow row → DrawsRow (cut_by wrap across width row)
cut_drawable true across width row all = all
cut_drawable false across width row all = columns_drawable across width row all

spaces_drawable : (attrs : Attrs) (count : ℕ) → IsPen attrs → DrawsRow (spaces attrs count)
spaces_drawable attrs count pen = All-replicate IsDrawable count (half_of attrs) (space_drawable attrs pen)

pub filled_drawable : (attrs : Attrs) (width : ℕ) (row : List Cell) → IsPen attrs → DrawsRow row → DrawsRow (filled_with attrs width row)
filled_drawable attrs width row pen all = All-append IsDrawable row (spaces attrs (width - length row)) all (spaces_drawable attrs (width - length row) pen)

shown_drawable : (attrs : Attrs) (wrap : Bool) (across width : ℕ) (rows : List (List Cell)) → IsPen attrs → DrawsRows rows → DrawsRows (map (λ row. filled_with attrs width (cut_by wrap across width row)) rows)
shown_drawable attrs wrap across width [] pen all = All-nil DrawsRow
shown_drawable attrs wrap across width (row ∷ rows) pen all =
    All-cons DrawsRow (filled_with attrs width (cut_by wrap across width row)) (map (λ row. filled_with attrs width (cut_by wrap across width row)) rows)
    (filled_drawable attrs width (cut_by wrap across width row) pen (cut_drawable wrap across width row (All-head DrawsRow row rows all)))
    (shown_drawable attrs wrap across width rows pen (All-tail DrawsRow row rows all))

wrapped_drawable : (width : ℕ) (lines : List (List Cell)) → DrawsRows lines → DrawsRows (flat_map (rows_of width) lines)
wrapped_drawable width [] all = All-nil DrawsRow
wrapped_drawable width (line ∷ lines) all =
    All-append DrawsRow (rows_of width line) (flat_map (rows_of width) lines) (cells-rows_of IsDrawable width line added (All-head DrawsRow line lines all))
    (wrapped_drawable width lines (All-tail DrawsRow line lines all))

rows_by_drawable : (wrap : Bool) (width : ℕ) (lines : List (List Cell)) → DrawsRows lines → DrawsRows (rows_by wrap width lines)
rows_by_drawable true width lines all = wrapped_drawable width lines all
rows_by_drawable false width lines all = all

window_drawable : (attrs : Attrs) (c : Content) (size : Extent) (scroll : Scroll) → IsPen attrs → DrawsRows c.lines → DrawsRows (window_rows_with attrs c size scroll)
window_drawable attrs c size scroll pen all =
    let rows = rows_by c.wrap size.cols c.lines in
    let shown = shown_rows c size scroll in
    let seen : DrawsRows shown = All-take DrawsRow size.rows (drop scroll.down rows) (All-drop DrawsRow scroll.down rows (rows_by_drawable c.wrap size.cols c.lines all)) in
    All-append DrawsRow (map (λ row. filled_with attrs size.cols (cut_by c.wrap scroll.across size.cols row)) shown) (replicate (size.rows - length shown) (spaces attrs size.cols))
    (shown_drawable attrs c.wrap scroll.across size.cols shown pen seen)
    (All-replicate DrawsRow (size.rows - length shown) (spaces attrs size.cols) (spaces_drawable attrs size.cols pen))

-- ---- windows at their places

abbrev pub DrawsPlaced : PlacedFields → Type 0
DrawsPlaced p = DrawsPane p.pane

cell_drawable : (p : PlacedFields) (row col : ℕ) → DrawsPlaced p → IsDrawable (cell_of p row col)
cell_drawable p row col draws =
    let grid = (view_of p).grid in
    let line : DrawsRow (row_at grid (row - p.row)) = at_all DrawsRow grid (row - p.row) [] (window_drawable p.pane.attrs p.pane.content p.size p.scroll draws.pen draws.lines) (All-nil IsDrawable) in
    at_all IsDrawable (row_at grid (row - p.row)) (col - p.col) blank line added.blank

top_drawable : (placed : List PlacedFields) (row col : ℕ) (cell : Cell) → IsDrawable cell → All DrawsPlaced placed → IsDrawable (fold (λ cell p. if holds p row col then cell_of p row col else cell) cell placed)
top_drawable [] row col cell one all = one
top_drawable (p ∷ placed) row col cell one all =
    top_drawable placed row col (if holds p row col then cell_of p row col else cell) (by (holds p row col)) (All-tail DrawsPlaced p placed all)
  where
    by : (b : Bool) → IsDrawable (if b then cell_of p row col else cell)
    by true = cell_drawable p row col (All-head DrawsPlaced p placed all)
    by false = one

mended_drawable : (wide : Bool) (cells : List Cell) → DrawsRow cells → DrawsRow (mended_after wide cells)
mended_drawable wide [] all = All-nil IsDrawable
mended_drawable wide (Lead text width attrs ∷ rest) all =
    All-cons IsDrawable (if nat_eq width 2 && not (begins_with_tail rest) then blank else Lead text width attrs) (mended_after (nat_eq width 2) rest)
    (by (nat_eq width 2 && not (begins_with_tail rest))) (mended_drawable (nat_eq width 2) rest (All-tail IsDrawable (Lead text width attrs) rest all))
  where
    by : (b : Bool) → IsDrawable (if b then blank else Lead text width attrs)
    by true = added.blank
    by false = All-head IsDrawable (Lead text width attrs) rest all
mended_drawable true (Tail ∷ rest) all = All-cons IsDrawable Tail (mended_after false rest) tt (mended_drawable false rest (All-tail IsDrawable Tail rest all))
mended_drawable false (Tail ∷ rest) all = All-cons IsDrawable blank (mended_after false rest) added.blank (mended_drawable false rest (All-tail IsDrawable Tail rest all))

-- a drawing of windows that can be drawn can be
pub painted_drawable : (placed : List PlacedFields) (size : Extent) → All DrawsPlaced placed → AllRowsDrawable (drawn_rows placed size)
painted_drawable placed size all =
    rows_drawable (drawn_rows placed size)
    (of_range DrawsRow (λ (row : ℕ). shown_cells placed row 0 size.cols) 0 size.rows
    (λ row. mended_drawable false (top_cells placed row 0 size.cols) (of_range IsDrawable (top_cell placed row) 0 size.cols (λ col. top_drawable placed row col blank added.blank all))))

-- ---- floats and bars

one_more : (placed : List PlacedFields) (pane : PaneFields) (found : Option Area) → DrawsPane pane → All DrawsPlaced placed → All DrawsPlaced (with_pane placed pane found)
one_more placed pane None draws all = all
one_more placed pane (Some area) draws all = All-append DrawsPlaced placed (placed_at pane area ∷ []) all (All-cons DrawsPlaced (placed_at pane area) [] draws (All-nil DrawsPlaced))

pub floats_drawable : (box : Area) (placed : List PlacedFields) (floats : List Float) → All DrawsPlaced placed → All (λ float. DrawsPane float.pane) floats → All DrawsPlaced (with_floats box placed floats)
floats_drawable box placed [] all more = all
floats_drawable box placed (float ∷ floats) all more =
    floats_drawable box (with_pane placed float.pane (float_area placed box float.pane float.place)) floats
    (one_more placed float.pane (float_area placed box float.pane float.place) (All-head (λ (f : Float). DrawsPane f.pane) float floats more) all)
    (All-tail (λ (f : Float). DrawsPane f.pane) float floats more)
