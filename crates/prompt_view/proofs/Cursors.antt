-- The size of a drawing, and the place of its cursor.
use Prim.Native.Nat.{suc}
use Rattle.std.proofs.Common.{Bool, true, false, if◌then◌else◌, ℕ, ◌≡◌, ◌+◌, ◌≤◌, ◌<◌, leb, nat_eq, refl, ◌∙◌, ap, subst, List, [], ◌∷◌, ◌++◌, length, map, fold, All, Option, None, Some, arith}
use Rattle.std.specs.Prelude.{unwrap_or}
use Rattle.std.proofs.lemmas.Bool.Decides.{nat_tests}
use Rattle.std.proofs.lemmas.List.Elements.{All-append, All-cons, All-head, All-nil, All-tail}
use Rattle.std.proofs.lemmas.List.FromFn.{get_or-map-range_with_len, length-map-range_with_len}
use Rattle.std.proofs.lemmas.List.Sums.{fold-append}
use Rattle.cell_grid.specs.declared.attrs.Attrs.{Attrs}
use Rattle.cell_grid.specs.declared.cell.Cell.{Cell}
use Rattle.cell_grid.specs.declared.cell.Cell.TheVariants.{Lead, Tail}
use Rattle.cell_grid.specs.Row.{IsWhole}
use Rattle.cell_grid.specs.Size.{Extent}
use Rattle.box_layout.specs.declared.areas.Area.{Area}
use Rattle.box_layout.specs.declared.nodes.Float.{Float}
use Rattle.box_layout.specs.Areas.{whole}
use Rattle.box_layout.specs.Floats.{float_area, with_floats, with_pane}
use Rattle.box_layout.specs.Painting.{cursor, cursor_of, mended_after, painted, shown_cells, top_cell, top_cells}
use Rattle.box_layout.specs.Panes.{PaneFields}
use Rattle.box_layout.specs.Placed.{PlacedFields, placed_at}
use Rattle.win_view.specs.declared.scrolls.Scroll.{Scroll}
use Rattle.win_view.specs.Contents.{IsContent}
use Rattle.win_view.specs.Settling.{settled}
use Rattle.win_view.specs.Views.{viewed}
use Rattle.win_view.proofs.CursorLaws.{col_shown, row_shown}
use Rattle.prompt_view.specs.Bars.{bar_pane, bar_panes, bars, stacked_from}
use Rattle.prompt_view.specs.Drawing.{HasCursorInside, IsOnScreen, buffer_pane, drawing_of, drawn_size, placed_box, placed_of, small_pane}
use Rattle.prompt_view.specs.Floats.{floats, has_menu, menu_floats, right_prompt_floats}
use Rattle.prompt_view.specs.Lines.{content_of}
use Rattle.prompt_view.specs.Rooms.{has_division, height_of, settled_scroll, window_of}
use Rattle.prompt_view.specs.Scene.{SceneFields}

-- ---- the size of a drawing

length-mended : (wide : Bool) (cells : List Cell) → length (mended_after wide cells) ≡ length cells
length-mended wide [] = refl
length-mended wide (Lead text width attrs ∷ rest) = ap suc (length-mended (nat_eq width 2) rest)
length-mended true (Tail ∷ rest) = ap suc (length-mended false rest)
length-mended false (Tail ∷ rest) = ap suc (length-mended false rest)

length-shown : (placed : List PlacedFields) (row from count : ℕ) → length (shown_cells placed row from count) ≡ count
length-shown placed row from count =
    length-mended false (top_cells placed row from count) ∙ length-map-range_with_len (top_cell placed row) from count

on_screen : (placed : List PlacedFields) (drawn screen : Extent) → 1 ≤ drawn.rows → drawn.rows ≤ screen.rows → drawn.cols ≡ screen.cols → IsOnScreen screen (painted placed drawn)
on_screen placed drawn screen some few cols =
    let row_of : ℕ → List Cell = λ row. shown_cells placed row 0 drawn.cols in
    let rows = length-map-range_with_len row_of 0 drawn.rows in
    record {
      wide = ap length (get_or-map-range_with_len row_of 0 drawn.rows 0 0 [] (omega (arith, some)) refl) ∙ length-shown placed 0 0 drawn.cols ∙ cols;
      some = omega (arith, rows, some);
      high = omega (arith, rows, few);
    }

pub drawing_on_screen : (s : SceneFields) → 1 ≤ s.size.rows → IsOnScreen s.size (drawing_of s)
drawing_on_screen s some = by (has_division s) refl
  where
    by : (b : Bool) → leb (1 + length (bars s)) (height_of s) ≡ b → IsOnScreen s.size (if b then painted (placed_of s) (drawn_size s) else painted (placed_at small_pane (whole s.size) ∷ []) s.size)
    by true fits =
        let enough : 1 + length (bars s) ≤ height_of s = grind (arith, nat_tests) in
        on_screen (placed_of s) (drawn_size s) s.size (omega (arith, enough)) (omega arith) refl
    by false small = on_screen (placed_at small_pane (whole s.size) ∷ []) s.size s.size some (omega arith) refl

-- ---- the window with the focus

abbrev IsUnfocused : PaneFields → Type 0
IsUnfocused pane = pane.focus ≡ false

abbrev cursor_with : Option (ℕ × ℕ) → PlacedFields → Option (ℕ × ℕ)
cursor_with place p = if p.pane.focus then Some (cursor_of p) else place

one_unfocused : (placed : List PlacedFields) (p : PlacedFields) → IsUnfocused p.pane → cursor (placed ++ p ∷ []) ≡ cursor placed
one_unfocused placed p none =
    fold-append cursor_with None placed (p ∷ [])
    ∙ ap (λ (focus : Bool). if focus then Some (cursor_of p) else cursor placed) none

with_unfocused : (placed : List PlacedFields) (pane : PaneFields) (found : Option Area) → IsUnfocused pane → cursor (with_pane placed pane found) ≡ cursor placed
with_unfocused placed pane None none = refl
with_unfocused placed pane (Some area) none = one_unfocused placed (placed_at pane area) none

cursor-floats : (box : Area) (placed : List PlacedFields) (floats : List Float) → All (λ float. IsUnfocused float.pane) floats → cursor (with_floats box placed floats) ≡ cursor placed
cursor-floats box placed [] none = refl
cursor-floats box placed (float ∷ floats) none =
    cursor-floats box (with_pane placed float.pane (float_area placed box float.pane float.place)) floats (All-tail (λ (f : Float). IsUnfocused f.pane) float floats none)
    ∙ with_unfocused placed float.pane (float_area placed box float.pane float.place) (All-head (λ (f : Float). IsUnfocused f.pane) float floats none)

fold-bars : (s : SceneFields) (place : Option (ℕ × ℕ)) (cols row : ℕ) (those : List (Attrs × List ℕ)) → fold cursor_with place (stacked_from cols row (map (bar_pane s) those)) ≡ place
fold-bars s place cols row [] = refl
fold-bars s place cols row (bar ∷ those) = fold-bars s place cols (row + 1) those

unfocused_right : (s : SceneFields) (text : List ℕ) → All (λ float. IsUnfocused float.pane) (right_prompt_floats s text)
unfocused_right s [] = All-nil (λ (f : Float). IsUnfocused f.pane)
unfocused_right s (c ∷ cs) = All-cons (λ (f : Float). IsUnfocused f.pane) _ [] refl (All-nil (λ (f : Float). IsUnfocused f.pane))

unfocused_menu : (s : SceneFields) → All (λ float. IsUnfocused float.pane) (menu_floats s)
unfocused_menu s = by (has_menu s) _ refl
  where
    by : (b : Bool) (one : Float) → IsUnfocused one.pane → All (λ float. IsUnfocused float.pane) (if b then one ∷ [] else [])
    by true one none = All-cons (λ (f : Float). IsUnfocused f.pane) one [] none (All-nil (λ (f : Float). IsUnfocused f.pane))
    by false one none = All-nil (λ (f : Float). IsUnfocused f.pane)

unfocused_floats : (s : SceneFields) → All (λ float. IsUnfocused float.pane) (floats s)
unfocused_floats s = by s.finished
  where
    by : (b : Bool) → All (λ float. IsUnfocused float.pane) (if b then [] else right_prompt_floats s s.right_prompt ++ menu_floats s)
    by true = All-nil (λ (f : Float). IsUnfocused f.pane)
    by false = All-append (λ (f : Float). IsUnfocused f.pane) (right_prompt_floats s s.right_prompt) (menu_floats s) (unfocused_right s s.right_prompt) (unfocused_menu s)

-- the cursor is that of the buffer's window
cursor_is : (s : SceneFields) → cursor (placed_of s) ≡ Some (cursor_of (placed_at (buffer_pane s) (whole (window_of s))))
cursor_is s =
    fold-append cursor_with None (placed_box s) (stacked_from s.size.cols (window_of s).rows (bar_panes s))
    ∙ fold-bars s (cursor (placed_box s)) s.size.cols (window_of s).rows (bars s)
    ∙ cursor-floats (whole (window_of s)) (placed_at (buffer_pane s) (whole (window_of s)) ∷ []) (floats s) (unfocused_floats s)

-- ---- the cursor inside the drawing

cursor_in : (placed : List PlacedFields) (drawn : Extent) (row col : ℕ) → unwrap_or (cursor placed) (0, 0) ≡ (row, col) → row < drawn.rows → col < drawn.cols → HasCursorInside (painted placed drawn)
cursor_in placed drawn row col is below right =
    let screen = on_screen placed drawn drawn (omega (arith, below)) (omega arith) refl in
    let rows = length-map-range_with_len (λ (at : ℕ). shown_cells placed at 0 drawn.cols) 0 drawn.rows in
    record {
      row = omega (arith, ap (λ (place : ℕ × ℕ). place.0) is, rows, below);
      col = omega (arith, ap (λ (place : ℕ × ℕ). place.1) is, screen.wide, right);
    }

settled_inside : (s : SceneFields) → IsContent (content_of s) → All IsWhole (content_of s).lines → 1 + length (bars s) ≤ height_of s → 1 ≤ s.size.cols → settled (content_of s) (window_of s) s.scroll ≡ s.scroll → HasCursorInside (painted (placed_of s) (drawn_size s))
settled_inside s is lines fits some stays =
    let content = content_of s in
    let window = window_of s in
    let row : (viewed content window s.scroll).row < window.rows =
    subst (λ (scroll : Scroll). (viewed content window scroll).row < window.rows) stays (row_shown content window s.scroll is (omega (arith, fits))) in
    let col : (viewed content window s.scroll).col < window.cols =
    subst (λ (scroll : Scroll). (viewed content window scroll).col < window.cols) stays (col_shown content window s.scroll is some lines) in
    cursor_in (placed_of s) (drawn_size s) _ _ (ap (λ (place : Option (ℕ × ℕ)). unwrap_or place (0, 0)) (cursor_is s)) (omega (arith, row)) (omega (arith, col))

pub cursor_inside : (s : SceneFields) → IsContent (content_of s) → All IsWhole (content_of s).lines → 1 ≤ s.size.rows → 1 ≤ s.size.cols → settled_scroll s ≡ s.scroll → HasCursorInside (drawing_of s)
cursor_inside s is lines rows cols stays = by (has_division s) refl stays
  where
    by : (b : Bool) → leb (1 + length (bars s)) (height_of s) ≡ b → (if b then settled (content_of s) (window_of s) s.scroll else s.scroll) ≡ s.scroll → HasCursorInside (if b then painted (placed_of s) (drawn_size s) else painted (placed_at small_pane (whole s.size) ∷ []) s.size)
    by true fits settles =
        let enough : 1 + length (bars s) ≤ height_of s = grind (arith, nat_tests) in
        settled_inside s is lines enough cols settles
    by false small settles = cursor_in (placed_at small_pane (whole s.size) ∷ []) s.size 0 0 refl rows cols
