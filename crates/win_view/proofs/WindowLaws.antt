-- What a window shows: as many rows as it has, each as wide as it, and its cursor among them.
use Rattle.std.proofs.Common.{◌≡◌, ℕ, ◌+◌, ◌-◌, ◌≤◌, ◌<◌, Bool, true, false, List, [], ◌∷◌, ◌++◌, length, get_or, map, replicate, take, drop, sym, ap, subst, ◌∙◌, arith, All, length-append, length-take}
use Rattle.std.specs.List.{flat_map}
use Rattle.std.proofs.lemmas.List.{length-map, length-replicate, take_more}
use Rattle.std.proofs.lemmas.List.Elements.{All-nil, All-cons, All-head, All-tail, All-append, All-take, All-drop}
use Rattle.cell_grid.specs.declared.attrs.Attrs.{Attrs}
use Rattle.cell_grid.specs.declared.cell.Cell.{Cell}
use Rattle.cell_grid.specs.Attrs.{plain}
use Rattle.cell_grid.specs.Cell.{narrow}
use Rattle.cell_grid.specs.Grid.{AllRows, IsRow}
use Rattle.cell_grid.specs.Row.{IsWhole}
use Rattle.cell_grid.specs.Size.{Extent}
use Rattle.cell_grid.proofs.RowLemmas.{whole-append}
use Rattle.win_view.specs.declared.contents.Content.{Content}
use Rattle.win_view.specs.declared.scrolls.Scroll.{Scroll}
use Rattle.win_view.specs.Contents.{content_rows, rows_by}
use Rattle.win_view.specs.Greedy.{IsHeld}
use Rattle.win_view.specs.Rows.{rows_of}
use Rattle.win_view.specs.Views.{columns_from, cut_by, filled_with, shown_rows, spaces, window_rows, window_rows_with}
use Rattle.win_view.proofs.ColumnCuts.{length-columns_from, whole-columns_from}
use Rattle.win_view.proofs.GreedyRows.{held-rows_of}
use Rattle.win_view.proofs.SpaceRows.{AllRows-spaces, whole-spaces}

-- ---- a row filled up

row-filled : (behind : Attrs) (width : ℕ) (row : List Cell) → IsHeld width row → IsRow width (filled_with behind width row)
row-filled behind width row held = record {
  long = omega (
    arith,
    length-append row (spaces behind (width - length row)),
    length-replicate (width - length row) (narrow 32 behind),
    held.fits,
  );
  whole = whole-append false row (spaces behind (width - length row)) held.whole (whole-spaces behind (width - length row));
}

-- ---- the rows of the content

pub held-lines : (width : ℕ) (lines : List (List Cell)) → 1 ≤ width → All IsWhole lines → All (IsHeld width) (flat_map (rows_of width) lines)
held-lines width [] some whole = All-nil (IsHeld width)
held-lines width (line ∷ lines) some whole =
    All-append (IsHeld width) (rows_of width line) (flat_map (rows_of width) lines)
    (held-rows_of width line some (All-head IsWhole line lines whole)) (held-lines width lines some (All-tail IsWhole line lines whole))

-- one line more
pub whole-more : (at : ℕ) (lines : List (List Cell)) (line : List Cell) → at < length lines → line ≡ get_or lines at line → All IsWhole (take at lines) → IsWhole line → All IsWhole (take (at + 1) lines)
whole-more at lines line within is before whole =
    subst (λ (front : List (List Cell)). All IsWhole front) (ap (λ (one : List Cell). take at lines ++ one ∷ []) is ∙ sym (take_more lines at line within))
    (All-append IsWhole (take at lines) (line ∷ []) before (All-cons IsWhole line [] whole (All-nil IsWhole)))

-- a row as the window shows it
abbrev pub IsShown : Bool → ℕ → ℕ → List Cell → Type 0
IsShown wrap across width row = IsHeld width (cut_by wrap across width row)

shown-rows : (wrap : Bool) (across width : ℕ) (lines : List (List Cell)) → 1 ≤ width → All IsWhole lines → All (IsShown wrap across width) (rows_by wrap width lines)
shown-rows true across width lines some whole = held-lines width lines some whole
shown-rows false across width [] some whole = All-nil (IsShown false across width)
shown-rows false across width (line ∷ lines) some whole =
    All-cons (IsShown false across width) line lines
    (record { whole = whole-columns_from across width line (All-head IsWhole line lines whole); fits = length-columns_from across width line })
    (shown-rows false across width lines some (All-tail IsWhole line lines whole))

-- the columns of lines
pub held-columns : (across width : ℕ) (lines : List (List Cell)) → All IsWhole lines → All (IsHeld width) (map (columns_from across width) lines)
held-columns across width [] whole = All-nil (IsHeld width)
held-columns across width (line ∷ lines) whole =
    All-cons (IsHeld width) (columns_from across width line) (map (columns_from across width) lines)
    (record { whole = whole-columns_from across width line (All-head IsWhole line lines whole); fits = length-columns_from across width line })
    (held-columns across width lines (All-tail IsWhole line lines whole))

-- ---- the rows of the window

rows-filled : (behind : Attrs) (wrap : Bool) (across width : ℕ) (rows : List (List Cell)) → All (IsShown wrap across width) rows → AllRows width (map (λ row. filled_with behind width (cut_by wrap across width row)) rows)
rows-filled behind wrap across width [] shown = tt
rows-filled behind wrap across width (row ∷ rows) shown = (
  row-filled behind width (cut_by wrap across width row) (All-head (IsShown wrap across width) row rows shown),
  rows-filled behind wrap across width rows (All-tail (IsShown wrap across width) row rows shown),
)

AllRows-append : (cols : ℕ) (above below : List (List Cell)) → AllRows cols above → AllRows cols below → AllRows cols (above ++ below)
AllRows-append cols [] below first second = second
AllRows-append cols (row ∷ above) below first second = (first.0, AllRows-append cols above below first.1 second)

pub AllRows-filled : (behind : Attrs) (rows cols : ℕ) (shown : List (List Cell)) → All (IsHeld cols) shown → AllRows cols (map (filled_with behind cols) shown ++ replicate (rows - length shown) (spaces behind cols))
AllRows-filled behind rows cols shown held =
    AllRows-append cols (map (filled_with behind cols) shown) (replicate (rows - length shown) (spaces behind cols))
    (rows-filled behind true 0 cols shown held) (AllRows-spaces behind (rows - length shown) cols)

-- each row is as wide as the window and whole
pub AllRows-window_rows_with : (behind : Attrs) (c : Content) (size : Extent) (scroll : Scroll) → 1 ≤ size.cols → All IsWhole c.lines → AllRows size.cols (window_rows_with behind c size scroll)
AllRows-window_rows_with behind c size scroll some whole =
    let shown = shown_rows c size scroll in
    let IsSeen : List Cell → Type 0 = IsShown c.wrap scroll.across size.cols in
    let all = shown-rows c.wrap scroll.across size.cols c.lines some whole in
    AllRows-append size.cols (map (λ row. filled_with behind size.cols (cut_by c.wrap scroll.across size.cols row)) shown)
    (replicate (size.rows - length shown) (spaces behind size.cols))
    (rows-filled behind c.wrap scroll.across size.cols shown (All-take IsSeen size.rows (drop scroll.down (content_rows c size.cols)) (All-drop IsSeen scroll.down (content_rows c size.cols) all)))
    (AllRows-spaces behind (size.rows - length shown) size.cols)

pub AllRows-window_rows : (c : Content) (size : Extent) (scroll : Scroll) → 1 ≤ size.cols → All IsWhole c.lines → AllRows size.cols (window_rows c size scroll)
AllRows-window_rows c size scroll some whole = AllRows-window_rows_with plain c size scroll some whole

-- there are as many as the window has
pub length-window_rows_with : (behind : Attrs) (c : Content) (size : Extent) (scroll : Scroll) → length (window_rows_with behind c size scroll) ≡ size.rows
length-window_rows_with behind c size scroll =
    let shown = shown_rows c size scroll in
    let row_of : List Cell → List Cell = λ row. filled_with behind size.cols (cut_by c.wrap scroll.across size.cols row) in
    omega (
      arith,
      length-append (map row_of shown) (replicate (size.rows - length shown) (spaces behind size.cols)),
      length-map shown row_of,
      length-replicate (size.rows - length shown) (spaces behind size.cols),
      length-take size.rows (drop scroll.down (content_rows c size.cols)),
    )

pub length-window_rows : (c : Content) (size : Extent) (scroll : Scroll) → length (window_rows c size scroll) ≡ size.rows
length-window_rows c size scroll = length-window_rows_with plain c size scroll
