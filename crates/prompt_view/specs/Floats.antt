-- What a contract sees of what floats over the buffer's window of a scene: the right prompt, and the menu of completions.
use Rattle.std.specs.Prelude.{ℕ, ◌+◌, ◌-◌, min, max, Bool, false, ◌&&◌, ◌||◌, ◌==◌, List, [], ◌∷◌, ◌++◌, length, map, Option, None, Some, nat_le, nat_lt, slice_get, unwrap_or, if◌then◌else◌}
use Rattle.std.specs.List.{range_with_len}
use Rattle.cell_grid.specs.declared.attrs.Attrs.{Attrs}
use Rattle.cell_grid.specs.declared.cell.Cell.{Cell}
use Rattle.cell_grid.specs.Attrs.{plain}
use Rattle.cell_grid.specs.Cell.{narrow}
use Rattle.cell_grid.specs.TextCells.{with_chars}
use Rattle.layout_dims.specs.Numbers.{greatest}
use Rattle.text_doc.specs.declared.completions.Completion.{Completion}
use Rattle.win_view.specs.Contents.{cursor_col, cursor_row, line_at}
use Rattle.win_view.specs.Rows.{rows_of}
use Rattle.win_view.specs.Scroll.{scrolled}
use Rattle.win_view.specs.Views.{filled_with, seen_col, seen_row}
use Rattle.box_layout.specs.declared.nodes.Float.{Float}
use Rattle.box_layout.specs.declared.nodes.FloatPlace.TheVariants.{TopRight, Near}
use Rattle.box_layout.specs.Floats.{near_rows}
use Rattle.box_layout.specs.Panes.{PaneFields}
use Rattle.prompt_view.specs.Bars.{exactly, text_pane, unscrolled}
use Rattle.prompt_view.specs.Lines.{content_with}
use Rattle.prompt_view.specs.Rooms.{has_items, window_of}
use Rattle.prompt_view.specs.Scene.{SceneFields}

-- how many columns a text has where it stands alone
abbrev pub columns_of : List ℕ → ℕ
columns_of text = length (with_chars plain plain [] text)

-- ---- the right prompt

abbrev pub right_prompt_floats : SceneFields → List ℕ → List Float
right_prompt_floats s [] = []
right_prompt_floats s (c ∷ cs) =
    record { pane = text_pane s.looks.right_prompt s.looks.control (c ∷ cs) (columns_of (c ∷ cs)); place = TopRight } ∷ []

-- ---- the menu

-- the menu stands near the lesser of the cursor and that of the document that it completes
abbrev pub menu_place : SceneFields → ℕ
menu_place s = min s.document.cursor s.origin

abbrev pub near_row : SceneFields → ℕ
near_row s = seen_row (content_with s (menu_place s)) s.size.cols s.scroll.down

abbrev pub near_col : SceneFields → ℕ
near_col s = seen_col s.wrap (content_with s (menu_place s)) s.size.cols s.scroll.across

-- the place is scrolled neither out at the start nor out at the end
abbrev pub is_place_shown : SceneFields → Bool
is_place_shown s =
    (nat_le s.scroll.down (cursor_row (content_with s (menu_place s)) s.size.cols) && nat_lt (near_row s) (window_of s).rows)
    && ((s.wrap || nat_le s.scroll.across (cursor_col (content_with s (menu_place s)) s.size.cols)) && nat_lt (near_col s) s.size.cols)

-- as wide as the widest item and two columns more, and at least seven columns; at most the screen's
abbrev pub menu_cols : SceneFields → ℕ
menu_cols s = min s.size.cols (max 7 (greatest (map (λ item. columns_of item.text) s.items) + 2))

-- the rows that it asks for: one for each item, at most 16
abbrev pub asked_menu_rows : SceneFields → ℕ
asked_menu_rows s = min 16 (length s.items)

-- the rows that it has near its place
abbrev pub menu_rows : SceneFields → ℕ
menu_rows s = (near_rows (near_row s) ((window_of s).rows - 1 - near_row s) (asked_menu_rows s)).1

-- the first item that is shown: the chosen one is, and one more before and behind it where there is room
abbrev pub first_item : SceneFields → ℕ
first_item s = scrolled 0 1 (unwrap_or s.chosen 0) (menu_rows s) (length s.items)

abbrev pub is_chosen : Option ℕ → ℕ → Bool
is_chosen None item = false
is_chosen (Some chosen) item = chosen == item

abbrev pub item_attrs : SceneFields → ℕ → Attrs
item_attrs s item = if is_chosen s.chosen item then s.looks.chosen else s.looks.menu

abbrev pub text_of : Option Completion → List ℕ
text_of None = []
text_of (Some item) = item.text

-- a row: a space, as many whole characters of the item as leave a column free, and spaces
abbrev pub row_with : Attrs → Attrs → ℕ → List ℕ → List Cell
row_with attrs control cols text =
    filled_with attrs cols (line_at (rows_of (max 1 (cols - 1)) (with_chars attrs control (narrow 32 attrs ∷ []) text)) 0)

abbrev pub item_row : SceneFields → ℕ → List Cell
item_row s item = row_with (item_attrs s item) s.looks.control (menu_cols s) (text_of (slice_get s.items item))

-- the window of the menu holds the items that are shown
abbrev pub menu_pane : SceneFields → PaneFields
menu_pane s = record {
  content = record { lines = map (item_row s) (range_with_len (first_item s) (menu_rows s)); line = 0; cell = 0; wrap = false };
  scroll = unscrolled;
  width = exactly (menu_cols s);
  height = exactly (asked_menu_rows s);
  attrs = s.looks.menu;
  focus = false;
}

abbrev pub has_menu : SceneFields → Bool
has_menu s = has_items s.items && (is_place_shown s && nat_lt 0 (menu_rows s))

abbrev pub menu_floats : SceneFields → List Float
menu_floats s =
    if has_menu s then record { pane = menu_pane s; place = Near (near_row s) (near_col s) } ∷ [] else []

-- the menu is over the right prompt; where the prompt is finished there is neither
abbrev pub floats : SceneFields → List Float
floats s = if s.finished then [] else right_prompt_floats s s.right_prompt ++ menu_floats s
