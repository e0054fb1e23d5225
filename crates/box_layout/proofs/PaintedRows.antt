-- Windows that are painted one by one: what a row and an area show of one more window.
use Prim.Native.Nat.{zero, suc}
use Rattle.std.proofs.Common.{◌≡◌, ℕ, ◌+◌, ◌-◌, ◌≤◌, ◌<◌, ◌≢◌, ◌⊎◌, inl, inr, Bool, true, false, ◌&&◌, leb, ltb, if◌then◌else◌, List, [], ◌∷◌, ◌++◌, length, map, take, drop, replicate, get_or, refl, sym, ap, ◌∙◌, arith}
use Rattle.std.specs.List.{range_with_len}
use Rattle.std.proofs.lemmas.Bool.Decides.{nat_tests}
use Rattle.std.proofs.lemmas.List.{length-replicate}
use Rattle.std.proofs.lemmas.List.Sums.{fold-append}
use Rattle.cell_grid.specs.declared.cell.Cell.{Cell}
use Rattle.cell_grid.specs.Cell.{blank}
use Rattle.cell_grid.specs.Grid.{AllRows, IsRow, blank_rows, blitted, columns, row_at}
use Rattle.cell_grid.specs.Row.{blank_row, laid_at}
use Rattle.cell_grid.proofs.GridLemmas.{AllRows-at, AllRows-blank_rows}
use Rattle.win_view.specs.Contents.{content_rows}
use Rattle.win_view.specs.Views.{cut_by, filled_with, spaces}
use Rattle.box_layout.specs.declared.areas.Area.{Area}
use Rattle.box_layout.specs.Areas.{IsInside}
use Rattle.box_layout.specs.Painting.{area_rows, cell_of, shown_cells, top_cell, top_cells, view_of, without_halves}
use Rattle.box_layout.specs.Placed.{PlacedFields, area_of, holds}
use Rattle.box_layout.proofs.Mending.{laid-without_halves}
use Rattle.box_layout.proofs.Ranges.{map-same, part-replaced, rows-blitted}

-- ---- the cell of one more window

top-more : (before : List PlacedFields) (p : PlacedFields) (row col : ℕ) → top_cell (before ++ p ∷ []) row col ≡ (if holds p row col then cell_of p row col else top_cell before row col)
top-more before p row col = fold-append (λ cell q. if holds q row col then cell_of q row col else cell) blank before (p ∷ [])

in-both : (a x b c y d : ℕ) → a ≤ x → x < b → c ≤ y → y < d → (leb a x && ltb x b) && (leb c y && ltb y d) ≡ true
in-both a x b c y d low high left right = grind (arith, nat_tests)

-- a place is outside a rectangle
abbrev IsOutside : PlacedFields → ℕ → ℕ → Type 0
IsOutside p row col = ((row < p.row) ⊎ (p.row + p.size.rows ≤ row)) ⊎ ((col < p.col) ⊎ (p.col + p.size.cols ≤ col))

not-above : (a x b c y d : ℕ) → (x < a) ⊎ (b ≤ x) → (leb a x && ltb x b) && (leb c y && ltb y d) ≡ false
not-above a x b c y d out = grind (arith, nat_tests)

not-beside : (a x b c y d : ℕ) → (y < c) ⊎ (d ≤ y) → (leb a x && ltb x b) && (leb c y && ltb y d) ≡ false
not-beside a x b c y d out = grind (arith, nat_tests)

lt-both : (a b c : ℕ) → a < b → a < c → ltb a b ≡ ltb a c
lt-both a b c below under = grind (arith, nat_tests)

holds-not : (p : PlacedFields) (row col : ℕ) → IsOutside p row col → holds p row col ≡ false
holds-not p row col out =
    elim out [
      | inl rows ↦ not-above p.row row (p.row + p.size.rows) p.col col (p.col + p.size.cols) rows
      | inr cols ↦ not-beside p.row row (p.row + p.size.rows) p.col col (p.col + p.size.cols) cols
    ]

top-inside : (before : List PlacedFields) (p : PlacedFields) (row col : ℕ) → p.row ≤ row → row < p.row + p.size.rows → p.col ≤ col → col < p.col + p.size.cols → top_cell (before ++ p ∷ []) row col ≡ cell_of p row col
top-inside before p row col low high left right =
    top-more before p row col
    ∙ ap (λ (test : Bool). if test then cell_of p row col else top_cell before row col) (in-both p.row row (p.row + p.size.rows) p.col col (p.col + p.size.cols) low high left right)

top-outside : (before : List PlacedFields) (p : PlacedFields) (row col : ℕ) → IsOutside p row col → top_cell before row col ≡ top_cell (before ++ p ∷ []) row col
top-outside before p row col out =
    sym (top-more before p row col ∙ ap (λ (test : Bool). if test then cell_of p row col else top_cell before row col) (holds-not p row col out))

-- ---- a row of one more window

-- where the window stands on the row, its cells are laid over those of the others
pub shown-more : (before : List PlacedFields) (p : PlacedFields) (row from count : ℕ) (cells : List Cell) → p.row ≤ row → row < p.row + p.size.rows → from ≤ p.col → p.col + p.size.cols ≤ from + count → 1 ≤ p.size.cols → cells ≡ row_at (view_of p).grid (row - p.row) → IsRow p.size.cols cells → laid_at (shown_cells before row from count) (p.col - from) cells ≡ shown_cells (before ++ p ∷ []) row from count
shown-more before p row from count cells low high left right some is whole =
    let long = whole.long in
    laid-without_halves (top_cells before row from count) (p.col - from) cells whole.whole (omega arith)
    ∙ ap without_halves (
    part-replaced (top_cell before row) (top_cell (before ++ p ∷ []) row) blank from (p.col - from) count cells (omega arith)
    (λ col first last. top-outside before p row col (inr (inl (omega arith))))
    (λ k col within place. let at : k ≡ col - p.col = omega arith in
    ap (λ (line : List Cell). get_or line k blank) is ∙ ap (λ (n : ℕ). get_or (row_at (view_of p).grid (row - p.row)) n blank) at
    ∙ sym (top-inside before p row col low high (omega arith) (omega arith)))
    (λ col first last. top-outside before p row col (inr (inr (omega arith))))
    )

-- where it does not, the row stays
pub shown-other : (before : List PlacedFields) (p : PlacedFields) (row from count : ℕ) → (row < p.row) ⊎ (p.row + p.size.rows ≤ row) → shown_cells before row from count ≡ shown_cells (before ++ p ∷ []) row from count
shown-other before p row from count out =
    ap without_halves (map-same (top_cell before row) (top_cell (before ++ p ∷ []) row) from count (λ col first last. top-outside before p row col (inl out)))

-- ---- the rows of an area

-- a window inside the area, whose view is laid over the rows
pub painted-more : (before : List PlacedFields) (p : PlacedFields) (area : Area) (part : List (List Cell)) → IsInside area (area_of p) → part ≡ (view_of p).grid → AllRows p.size.cols part → length part ≡ p.size.rows → 1 ≤ p.size.cols → blitted (area_rows before area) part (p.row - area.row) (p.col - area.col) ≡ area_rows (before ++ p ∷ []) area
painted-more before p area part inside is every high some =
    let above = inside.above in
    let below = inside.below in
    let left = inside.left in
    let right = inside.right in
    rows-blitted (λ row. shown_cells before row area.col area.size.cols) (λ row. shown_cells (before ++ p ∷ []) row area.col area.size.cols) area.row (p.row - area.row) area.size.rows
    (p.col - area.col) part (omega arith)
    (λ row first last. shown-other before p row area.col area.size.cols (inl (omega arith)))
    (λ k row within place. let at : k ≡ row - p.row = omega arith in
    shown-more before p row area.col area.size.cols (row_at part k) (omega arith) (omega arith) left right some
    (ap (λ (rows : List (List Cell)). row_at rows k) is ∙ ap (row_at (view_of p).grid) at) (AllRows-at p.size.cols part k every within))
    (λ row first last. shown-other before p row area.col area.size.cols (inr (omega arith)))

-- ---- no windows

shown-none : (row from count : ℕ) → shown_cells [] row from count ≡ blank_row count
shown-none row from zero = refl
shown-none row from (suc count) = ap (λ (cells : List Cell). blank ∷ cells) (shown-none row (from + 1) count)

rows-none : (col cols from count : ℕ) → blank_rows count cols ≡ map (λ row. shown_cells [] row col cols) (range_with_len from count)
rows-none col cols from zero = refl
rows-none col cols from (suc count) =
    ap (λ (line : List Cell). line ∷ blank_rows count cols) (sym (shown-none from col cols))
    ∙ ap (λ (rows : List (List Cell)). shown_cells [] from col cols ∷ rows) (rows-none col cols (from + 1) count)

pub columns-none : (rows cols : ℕ) → 1 ≤ rows → columns (blank_rows rows cols) ≡ cols
columns-none rows cols some = (AllRows-at cols (blank_rows rows cols) 0 (AllRows-blank_rows rows cols) (omega (arith, length-replicate rows (blank_row cols)))).long

pub painted-none : (area : Area) → blank_rows area.size.rows area.size.cols ≡ area_rows [] area
painted-none area = rows-none area.col area.size.cols area.row area.size.rows

-- ---- the first row of an area

-- a window of which one row stands
abbrev pub first_of : PlacedFields → PlacedFields
first_of p = record p { size = record { rows = 1; cols = p.size.cols } }

-- the first row of an area
abbrev pub first_in : Area → Area
first_in area = record area { size = record { rows = 1; cols = area.size.cols } }

-- the first row of a view is the same whatever its height
first-filled : {X : Type 0} (row_of : X → List Cell) (rows : ℕ) (shown : List X) (behind : List Cell) → 1 ≤ rows → row_at (map row_of (take rows shown) ++ replicate (rows - length (take rows shown)) behind) 0 ≡ row_at (map row_of (take 1 shown) ++ replicate (1 - length (take 1 shown)) behind) 0
first-filled row_of zero shown behind some = absurd (omega arith)
first-filled row_of (suc rows) [] behind some =
    let left : suc rows - 0 ≡ suc rows = omega arith in
    ap (λ (n : ℕ). row_at (replicate n behind) 0) left
first-filled row_of (suc rows) (row ∷ shown) behind some = refl

first-viewed : (p : PlacedFields) → 1 ≤ p.size.rows → row_at (view_of p).grid 0 ≡ row_at (view_of (first_of p)).grid 0
first-viewed p some =
    first-filled (λ row. filled_with p.pane.attrs p.size.cols (cut_by p.pane.content.wrap p.scroll.across p.size.cols row)) p.size.rows
    (drop p.scroll.down (content_rows p.pane.content p.size.cols)) (spaces p.pane.attrs p.size.cols) some

first-cell : (p : PlacedFields) (row col : ℕ) → p.row ≡ row → 1 ≤ p.size.rows → cell_of (first_of p) row col ≡ cell_of p row col
first-cell p row col here some =
    let none : row - p.row ≡ 0 = omega arith in
    ap (λ (n : ℕ). get_or (row_at (view_of (first_of p)).grid n) (col - p.col) blank) none
    ∙ ap (λ (cells : List Cell). get_or cells (col - p.col) blank) (sym (first-viewed p some))
    ∙ sym (ap (λ (n : ℕ). get_or (row_at (view_of p).grid n) (col - p.col) blank) none)

first-holds : (p : PlacedFields) (row col : ℕ) → p.row ≡ row → 1 ≤ p.size.rows → holds (first_of p) row col ≡ holds p row col
first-holds p row col here some =
    ap (λ (test : Bool). (leb p.row row && test) && (leb p.col col && ltb col (p.col + p.size.cols))) (lt-both row (p.row + 1) (p.row + p.size.rows) (omega arith) (omega arith))

first-top : (before : List PlacedFields) (p : PlacedFields) (row col : ℕ) → p.row ≡ row → 1 ≤ p.size.rows → top_cell (before ++ first_of p ∷ []) row col ≡ top_cell (before ++ p ∷ []) row col
first-top before p row col here some =
    top-more before (first_of p) row col
    ∙ ap (λ (test : Bool). if test then cell_of (first_of p) row col else top_cell before row col) (first-holds p row col here some)
    ∙ ap (λ (cell : Cell). if holds p row col then cell else top_cell before row col) (first-cell p row col here some)
    ∙ sym (top-more before p row col)

-- a window that begins on the row
pub first-more : (before : List PlacedFields) (p : PlacedFields) (area : Area) → p.row ≡ area.row → 1 ≤ p.size.rows → area_rows (before ++ first_of p ∷ []) (first_in area) ≡ area_rows (before ++ p ∷ []) (first_in area)
first-more before p area here some =
    ap (λ (cells : List Cell). without_halves cells ∷ []) (
    map-same (top_cell (before ++ first_of p ∷ []) area.row) (top_cell (before ++ p ∷ []) area.row) area.col area.size.cols (λ col left right. first-top before p area.row col here some)
    )

-- a window inside the area that does not
pub first-other : (before : List PlacedFields) (p : PlacedFields) (area : Area) → IsInside area (area_of p) → p.row ≢ area.row → area_rows before (first_in area) ≡ area_rows (before ++ p ∷ []) (first_in area)
first-other before p area inside other =
    let above = inside.above in
    ap (λ (cells : List Cell). cells ∷ []) (shown-other before p area.row area.col area.size.cols (inl (omega arith)))
