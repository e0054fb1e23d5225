-- What holds of each cell of the lines holds of each cell of the window, where lines wrap.
use Rattle.std.proofs.Common.{◌≡◌, ℕ, ◌-◌, if◌then◌else◌, leb, nat_eq, Bool, true, false, List, [], ◌∷◌, length, map, take, drop, refl, subst, All}
use Rattle.std.specs.List.{flat_map}
use Rattle.std.proofs.lemmas.Bool.{eqb-true}
use Rattle.std.proofs.lemmas.List.Elements.{All-nil, All-cons, All-head, All-tail, All-append, All-take, All-drop, All-replicate}
use Rattle.cell_grid.specs.declared.attrs.Attrs.{Attrs}
use Rattle.cell_grid.specs.declared.cell.Cell.{Cell}
use Rattle.cell_grid.specs.declared.cell.Cell.TheVariants.{Lead, Tail}
use Rattle.cell_grid.specs.Cell.{blank, narrow}
use Rattle.cell_grid.specs.Grid.{blank_rows}
use Rattle.cell_grid.specs.Row.{blank_row}
use Rattle.cell_grid.specs.Size.{Extent}
use Rattle.win_view.specs.declared.contents.Content.{Content}
use Rattle.win_view.specs.declared.scrolls.Scroll.{Scroll}
use Rattle.win_view.specs.Rows.{flowed, holdable, narrowed_cell, onto_first, rows_of}
use Rattle.win_view.specs.Views.{filled, window_rows}

-- a fact that also holds of the cells that a window puts in: a blank, and U+FFFD in place of a wide character
pub record HoldsOfAdded (P : Cell → Type 0) : Type 0 where
  pub blank : P blank
  pub narrowed : (text : List ℕ) (attrs : Attrs) → P (Lead text 2 attrs) → P (narrow 65533 attrs)

-- it holds of each cell of the rows
abbrev pub AllCells : (Cell → Type 0) → List (List Cell) → Type 0
AllCells P rows = All (λ row. All P row) rows

-- ---- the rows of a line

cells-onto : (P : Cell → Type 0) (cell : Cell) (rows : List (List Cell)) → P cell → AllCells P rows → AllCells P (onto_first cell rows)
cells-onto P cell [] one all = All-cons (λ row. All P row) (cell ∷ []) [] (All-cons P cell [] one (All-nil P)) all
cells-onto P cell (row ∷ rows) one all =
    All-cons (λ row. All P row) (cell ∷ row) rows (All-cons P cell row one (All-head (λ row. All P row) row rows all)) (All-tail (λ row. All P row) row rows all)

cells-if : (P : Cell → Type 0) (test : Bool) (cell : Cell) (fit broken : List (List Cell)) → P cell → AllCells P fit → AllCells P broken → AllCells P (if test then onto_first cell fit else [] ∷ onto_first cell broken)
cells-if P true cell fit broken one fits breaks = cells-onto P cell fit one fits
cells-if P false cell fit broken one fits breaks = All-cons (λ row. All P row) [] (onto_first cell broken) (All-nil P) (cells-onto P cell broken one breaks)

cells-flowed : (P : Cell → Type 0) (width room : ℕ) (cells : List Cell) → All P cells → AllCells P (flowed width room cells)
cells-flowed P width room [] all = All-cons (λ row. All P row) [] [] (All-nil P) (All-nil (λ row. All P row))
cells-flowed P width room (Tail ∷ cells) all =
    cells-onto P Tail (flowed width room cells) (All-head P Tail cells all) (cells-flowed P width room cells (All-tail P Tail cells all))
cells-flowed P width room (Lead text columns attrs ∷ cells) all =
    let rest = All-tail P (Lead text columns attrs) cells all in
    cells-if P (leb columns room) (Lead text columns attrs) (flowed width (room - columns) cells) (flowed width (width - columns) cells)
    (All-head P (Lead text columns attrs) cells all) (cells-flowed P width (room - columns) cells rest) (cells-flowed P width (width - columns) cells rest)

narrowed-if : (P : Cell → Type 0) (wide : Bool) (text : List ℕ) (columns : ℕ) (attrs : Attrs) → HoldsOfAdded P → nat_eq columns 2 ≡ wide → P (Lead text columns attrs) → P (if wide then narrow 65533 attrs else Lead text columns attrs)
narrowed-if P true text columns attrs added is one = added.narrowed text attrs (subst (λ (n : ℕ). P (Lead text n attrs)) (eqb-true columns 2 is) one)
narrowed-if P false text columns attrs added is one = one

cells-narrowed : (P : Cell → Type 0) (cells : List Cell) → HoldsOfAdded P → All P cells → All P (flat_map narrowed_cell cells)
cells-narrowed P [] added all = All-nil P
cells-narrowed P (Tail ∷ cells) added all = cells-narrowed P cells added (All-tail P Tail cells all)
cells-narrowed P (Lead text columns attrs ∷ cells) added all =
    All-cons P (if nat_eq columns 2 then narrow 65533 attrs else Lead text columns attrs) (flat_map narrowed_cell cells)
    (narrowed-if P (nat_eq columns 2) text columns attrs added refl (All-head P (Lead text columns attrs) cells all))
    (cells-narrowed P cells added (All-tail P (Lead text columns attrs) cells all))

held-if : (P : Cell → Type 0) (one : Bool) (cells : List Cell) → HoldsOfAdded P → All P cells → All P (if one then flat_map narrowed_cell cells else cells)
held-if P true cells added all = cells-narrowed P cells added all
held-if P false cells added all = all

pub cells-rows_of : (P : Cell → Type 0) (width : ℕ) (cells : List Cell) → HoldsOfAdded P → All P cells → AllCells P (rows_of width cells)
cells-rows_of P width cells added all = cells-flowed P width width (holdable width cells) (held-if P (nat_eq width 1) cells added all)

cells-lines : (P : Cell → Type 0) (width : ℕ) (lines : List (List Cell)) → HoldsOfAdded P → AllCells P lines → AllCells P (flat_map (rows_of width) lines)
cells-lines P width [] added all = All-nil (λ row. All P row)
cells-lines P width (line ∷ lines) added all =
    All-append (λ row. All P row) (rows_of width line) (flat_map (rows_of width) lines)
    (cells-rows_of P width line added (All-head (λ row. All P row) line lines all))
    (cells-lines P width lines added (All-tail (λ row. All P row) line lines all))

-- ---- the rows of the window

cells-filled : (P : Cell → Type 0) (width : ℕ) (rows : List (List Cell)) → HoldsOfAdded P → AllCells P rows → AllCells P (map (λ row. filled width row) rows)
cells-filled P width [] added all = All-nil (λ row. All P row)
cells-filled P width (row ∷ rows) added all =
    All-cons (λ row. All P row) (filled width row) (map (λ row. filled width row) rows)
    (All-append P row (blank_row (width - length row)) (All-head (λ row. All P row) row rows all) (All-replicate P (width - length row) blank added.blank))
    (cells-filled P width rows added (All-tail (λ row. All P row) row rows all))

pub cells-window_rows : (P : Cell → Type 0) (c : Content) (size : Extent) (scroll : Scroll) → HoldsOfAdded P → c.wrap ≡ true → AllCells P c.lines → AllCells P (window_rows c size scroll)
cells-window_rows P c size scroll added wrapped all =
    let rows = flat_map (rows_of size.cols) c.lines in
    let shown = take size.rows (drop scroll.down rows) in
    let seen : AllCells P shown =
    All-take (λ row. All P row) size.rows (drop scroll.down rows) (All-drop (λ row. All P row) scroll.down rows (cells-lines P size.cols c.lines added all))
    in
    rw wrapped (
    All-append (λ row. All P row) (map (λ row. filled size.cols row) shown) (blank_rows (size.rows - length shown) size.cols)
    (cells-filled P size.cols shown added seen)
    (All-replicate (λ row. All P row) (size.rows - length shown) (blank_row size.cols) (All-replicate P size.cols blank added.blank))
    )
