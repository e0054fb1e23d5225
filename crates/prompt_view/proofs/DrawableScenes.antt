-- Each cell of a scene's drawing can be drawn, where the attributes of its classes can.
use Rattle.std.proofs.Common.{Bool, true, false, if◌then◌else◌, ℕ, ◌+◌, ◌-◌, max, List, [], ◌∷◌, ◌++◌, length, map, take, drop, replicate, slice_range, codes, All}
use Rattle.std.proofs.lemmas.List.Elements.{All-append, All-cons, All-head, All-nil, All-replicate, All-tail}
use Rattle.std.specs.Prelude.{slice_get}
use Rattle.cell_grid.specs.declared.attrs.Attrs.{Attrs}
use Rattle.cell_grid.specs.declared.cell.Cell.{Cell}
use Rattle.cell_grid.specs.Attrs.{plain}
use Rattle.cell_grid.specs.Cell.{blank, narrow}
use Rattle.cell_grid.specs.Drawable.{AllRowsDrawable, IsDrawable, IsPen}
use Rattle.cell_grid.specs.TextCells.{with_chars}
use Rattle.box_layout.specs.declared.nodes.Float.{Float}
use Rattle.box_layout.specs.Areas.{whole}
use Rattle.box_layout.specs.Painting.{painted}
use Rattle.box_layout.specs.Placed.{placed_at}
use Rattle.text_doc.specs.Lines.{lines_of}
use Rattle.text_rows.specs.declared.looks.Looks.{Looks}
use Rattle.text_rows.specs.DrawnText.{TextFields}
use Rattle.text_rows.specs.Lines.{line_cells, lines_from}
use Rattle.win_view.specs.Rows.{rows_of}
use Rattle.win_view.proofs.CellLaws.{cells-rows_of}
use Rattle.prompt_view.specs.Bars.{bar, bar_pane, bars, going_bars, search_text, stacked_from, text_cells, text_pane}
use Rattle.prompt_view.specs.Drawing.{ArePens, buffer_pane, drawing_of, drawn_size, placed_box, placed_of, small_pane}
use Rattle.prompt_view.specs.Floats.{columns_of, first_item, floats, has_menu, is_chosen, item_attrs, item_row, menu_cols, menu_floats, menu_pane, menu_rows, right_prompt_floats, text_of}
use Rattle.prompt_view.specs.Lines.{content_of, continuation_cells, drawn_text, message_cells}
use Rattle.prompt_view.specs.Rooms.{has_division, window_of}
use Rattle.prompt_view.specs.Scene.{SceneFields}
use Rattle.prompt_view.proofs.DrawableCells.{chars_drawable}
use Rattle.prompt_view.proofs.DrawableWindows.{DrawsPane, DrawsPlaced, DrawsRow, DrawsRows, added, at_all, filled_drawable, floats_drawable, of_range, painted_drawable, plain_pen, space_drawable}

-- ---- the lines of a text

record PenLooks (looks : Looks) : Type 0 where
  control : IsPen looks.control
  selected : IsPen looks.selected
  suggestion : IsPen looks.suggestion

line_drawable : (t : TextFields) (before : List Cell) (start : ℕ) (line behind : List ℕ) → PenLooks t.looks → DrawsRow before → DrawsRow (line_cells t before start line behind)
line_drawable t before start line behind pens all =
    let from = t.selected_from - start in
    let to = t.selected_to - start in
    let looks = t.looks in
    let front = with_chars plain looks.control before (take from line) in
    let middle = with_chars looks.selected looks.control front (slice_range line from to) in
    let own = with_chars plain looks.control middle (drop to line) in
    let first : DrawsRow front = chars_drawable plain looks.control before (take from line) plain_pen pens.control all in
    let second : DrawsRow middle = chars_drawable looks.selected looks.control front (slice_range line from to) pens.selected pens.control first in
    let third : DrawsRow own = chars_drawable plain looks.control middle (drop to line) plain_pen pens.control second in
    All-append IsDrawable (with_chars looks.suggestion looks.control own behind) (blank ∷ [])
    (chars_drawable looks.suggestion looks.control own behind pens.suggestion pens.control third)
    (All-cons IsDrawable blank [] added.blank (All-nil IsDrawable))

lines_drawable : (t : TextFields) (before : List Cell) (start : ℕ) (lines : List (List ℕ)) → PenLooks t.looks → DrawsRow before → DrawsRow t.continuation → DrawsRows (lines_from t before start lines)
lines_drawable t before start [] pens all others = All-nil DrawsRow
lines_drawable t before start (line ∷ []) pens all others =
    All-cons DrawsRow (line_cells t before start line t.suggestion) [] (line_drawable t before start line t.suggestion pens all) (All-nil DrawsRow)
lines_drawable t before start (line ∷ next ∷ lines) pens all others =
    All-cons DrawsRow (line_cells t before start line []) (lines_from t t.continuation (start + length line + 1) (next ∷ lines)) (line_drawable t before start line [] pens all)
    (lines_drawable t t.continuation (start + length line + 1) (next ∷ lines) pens others others)

continuation_drawable : (s : SceneFields) → ArePens s.looks → DrawsRow (continuation_cells s)
continuation_drawable s pens = by s.multiline
  where
    by : (b : Bool) → DrawsRow (if b then replicate (length (message_cells s)) (narrow 32 s.looks.continuation) else [])
    by true = All-replicate IsDrawable (length (message_cells s)) (narrow 32 s.looks.continuation) (space_drawable s.looks.continuation pens.continuation)
    by false = All-nil IsDrawable

content_drawable : (s : SceneFields) → ArePens s.looks → DrawsRows (content_of s).lines
content_drawable s pens =
    lines_drawable (drawn_text s) (message_cells s) 0 (lines_of (drawn_text s).text)
    (record { control = pens.control; selected = pens.selected; suggestion = pens.suggestion })
    (chars_drawable s.looks.prompt s.looks.control [] s.message pens.prompt pens.control (All-nil IsDrawable))
    (continuation_drawable s pens)

-- ---- windows of one line

cells_drawable : (attrs control : Attrs) (text : List ℕ) → IsPen attrs → IsPen control → DrawsRow (text_cells attrs control text)
cells_drawable attrs control text pen other =
    All-append IsDrawable (with_chars attrs control [] text) (narrow 32 attrs ∷ []) (chars_drawable attrs control [] text pen other (All-nil IsDrawable))
    (All-cons IsDrawable (narrow 32 attrs) [] (space_drawable attrs pen) (All-nil IsDrawable))

text_pane_drawable : (attrs control : Attrs) (text : List ℕ) (cols : ℕ) → IsPen attrs → IsPen control → DrawsPane (text_pane attrs control text cols)
text_pane_drawable attrs control text cols pen other = record {
  pen = pen;
  lines = All-cons DrawsRow (text_cells attrs control text) [] (cells_drawable attrs control text pen other) (All-nil DrawsRow);
}

-- ---- the menu

item_pen : (s : SceneFields) (item : ℕ) → ArePens s.looks → IsPen (item_attrs s item)
item_pen s item pens = by (is_chosen s.chosen item)
  where
    by : (b : Bool) → IsPen (if b then s.looks.chosen else s.looks.menu)
    by true = pens.chosen
    by false = pens.menu

item_drawable : (s : SceneFields) (item : ℕ) → ArePens s.looks → DrawsRow (item_row s item)
item_drawable s item pens =
    let attrs = item_attrs s item in
    let pen : IsPen attrs = item_pen s item pens in
    let cols = menu_cols s in
    let cells = with_chars attrs s.looks.control (narrow 32 attrs ∷ []) (text_of (slice_get s.items item)) in
    let all : DrawsRow cells =
    chars_drawable attrs s.looks.control (narrow 32 attrs ∷ []) (text_of (slice_get s.items item)) pen pens.control (All-cons IsDrawable (narrow 32 attrs) [] (space_drawable attrs pen) (All-nil IsDrawable)) in
    filled_drawable attrs cols _ pen (at_all DrawsRow (rows_of (max 1 (cols - 1)) cells) 0 [] (cells-rows_of IsDrawable (max 1 (cols - 1)) cells added all) (All-nil IsDrawable))

menu_drawable : (s : SceneFields) → ArePens s.looks → DrawsPane (menu_pane s)
menu_drawable s pens = record {
  pen = pens.menu;
  lines = of_range DrawsRow (item_row s) (first_item s) (menu_rows s) (λ item. item_drawable s item pens);
}

-- ---- what floats, and the bars

abbrev DrawsFloat : Float → Type 0
DrawsFloat float = DrawsPane float.pane

right_prompt_drawable : (s : SceneFields) (text : List ℕ) → ArePens s.looks → All DrawsFloat (right_prompt_floats s text)
right_prompt_drawable s [] pens = All-nil DrawsFloat
right_prompt_drawable s (c ∷ cs) pens =
    All-cons DrawsFloat _ [] (text_pane_drawable s.looks.right_prompt s.looks.control (c ∷ cs) (columns_of (c ∷ cs)) pens.right_prompt pens.control) (All-nil DrawsFloat)

if_there : (b : Bool) (one : Float) → DrawsFloat one → All DrawsFloat (if b then one ∷ [] else [])
if_there true one draws = All-cons DrawsFloat one [] draws (All-nil DrawsFloat)
if_there false one draws = All-nil DrawsFloat

scene_floats_drawable : (s : SceneFields) → ArePens s.looks → All DrawsFloat (floats s)
scene_floats_drawable s pens = by s.finished
  where
    by : (b : Bool) → All DrawsFloat (if b then [] else right_prompt_floats s s.right_prompt ++ menu_floats s)
    by true = All-nil DrawsFloat
    by false = All-append DrawsFloat (right_prompt_floats s s.right_prompt) (menu_floats s) (right_prompt_drawable s s.right_prompt pens) (if_there (has_menu s) _ (menu_drawable s pens))

abbrev IsPenOf : Attrs × List ℕ → Type 0
IsPenOf b = IsPen b.0

bar_pen : (attrs : Attrs) (text : List ℕ) → IsPen attrs → All IsPenOf (bar attrs text)
bar_pen attrs [] pen = All-nil IsPenOf
bar_pen attrs (c ∷ cs) pen = All-cons IsPenOf (attrs, c ∷ cs) [] pen (All-nil IsPenOf)

bars_pens : (s : SceneFields) → ArePens s.looks → All IsPenOf (bars s)
bars_pens s pens = by s.finished
  where
    going : All IsPenOf (going_bars s)
    going =
        All-append IsPenOf (bar s.looks.verdict s.verdict) _ (bar_pen s.looks.verdict s.verdict pens.verdict)
        (All-append IsPenOf (bar s.looks.argument _) _ (bar_pen s.looks.argument _ pens.argument)
        (All-append IsPenOf (bar s.looks.search (search_text s.search s.needle)) (bar s.looks.toolbar s.toolbar) (bar_pen s.looks.search (search_text s.search s.needle) pens.search) (bar_pen s.looks.toolbar s.toolbar pens.toolbar)))

    by : (b : Bool) → All IsPenOf (if b then [] else going_bars s)
    by true = All-nil IsPenOf
    by false = going

stacked_drawable : (s : SceneFields) (row : ℕ) (those : List (Attrs × List ℕ)) → IsPen s.looks.control → All IsPenOf those → All DrawsPlaced (stacked_from s.size.cols row (map (bar_pane s) those))
stacked_drawable s row [] control pens = All-nil DrawsPlaced
stacked_drawable s row (one ∷ those) control pens =
    All-cons DrawsPlaced _ (stacked_from s.size.cols (row + 1) (map (bar_pane s) those)) (text_pane_drawable one.0 s.looks.control one.1 s.size.cols (All-head IsPenOf one those pens) control)
    (stacked_drawable s (row + 1) those control (All-tail IsPenOf one those pens))

-- ---- the drawing

placed_drawable : (s : SceneFields) → ArePens s.looks → All DrawsPlaced (placed_of s)
placed_drawable s pens =
    let window = whole (window_of s) in
    let buffer : DrawsPane (buffer_pane s) = record { pen = plain_pen; lines = content_drawable s pens } in
    All-append DrawsPlaced (placed_box s) (stacked_from s.size.cols (window_of s).rows (map (bar_pane s) (bars s)))
    (floats_drawable window (placed_at (buffer_pane s) window ∷ []) (floats s) (All-cons DrawsPlaced (placed_at (buffer_pane s) window) [] buffer (All-nil DrawsPlaced)) (scene_floats_drawable s pens))
    (stacked_drawable s (window_of s).rows (bars s) pens.control (bars_pens s pens))

small_drawable : DrawsPane small_pane
small_drawable = record {
  pen = plain_pen;
  lines = All-cons DrawsRow _ [] (cells_drawable plain plain (codes "Window too small...") plain_pen plain_pen) (All-nil DrawsRow);
}

pub drawing_drawable : (s : SceneFields) → ArePens s.looks → AllRowsDrawable (drawing_of s).grid
drawing_drawable s pens = by (has_division s)
  where
    by : (b : Bool) → AllRowsDrawable (if b then painted (placed_of s) (drawn_size s) else painted (placed_at small_pane (whole s.size) ∷ []) s.size).grid
    by true = painted_drawable (placed_of s) (drawn_size s) (placed_drawable s pens)
    by false = painted_drawable (placed_at small_pane (whole s.size) ∷ []) s.size (All-cons DrawsPlaced (placed_at small_pane (whole s.size)) [] small_drawable (All-nil DrawsPlaced))
