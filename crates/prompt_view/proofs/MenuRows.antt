-- The rows of a menu: how many there are, and how long each of them is.
use Prim.Native.Nat.{suc}
use Rattle.std.proofs.Common.{◌≡◌, ℕ, ◌+◌, ◌-◌, ◌*◌, ◌≤◌, ◌<◌, min, max, leb, Bool, true, false, cond, List, [], ◌∷◌, ◌++◌, length, map, replicate, refl, sym, subst, ap, ◌∙◌, All, Some, slice_get, arith, append_assoc, length-append, sum_by}
use Rattle.std.proofs.lemmas.Bool.Decides.{nat_tests}
use Rattle.std.proofs.lemmas.List.{append-nil, length-replicate}
use Rattle.std.specs.List.{range_with_len}
use Rattle.std.proofs.lemmas.List.Elements.{All-append, All-cons, All-head, All-nil, All-tail}
use Rattle.std.proofs.lemmas.List.FromFn.{length-map-range_with_len, map-range_with_len_more}
use Rattle.std.proofs.lemmas.List.Sums.{sum_by-cons}
use Rattle.cell_grid.specs.declared.attrs.Attrs.{Attrs}
use Rattle.cell_grid.specs.declared.cell.Cell.{Cell}
use Rattle.cell_grid.specs.Cell.{narrow}
use Rattle.cell_grid.specs.Row.{IsWhole}
use Rattle.box_layout.specs.Floats.{near_rows}
use Rattle.win_view.specs.declared.contents.Content.{Content}
use Rattle.win_view.specs.Contents.{IsContent, line_at}
use Rattle.win_view.specs.Greedy.{IsHeld}
use Rattle.win_view.specs.Rows.{rows_of}
use Rattle.win_view.specs.Views.{filled_with}
use Rattle.win_view.proofs.GreedyRows.{held-rows_of}

-- ---- how many rows a float near a row has

abbrev rows_by : Bool → Bool → ℕ → ℕ → ℕ → ℕ × ℕ
rows_by fits more row below height = cond fits (row + 1, height) (cond more (row + 1, below) (row - min height row, min height row))

by_tests : (fits more : Bool) (row below height : ℕ) → leb height below ≡ fits → leb row below ≡ more → (rows_by fits more row below height).1 ≡ min height (max below row)
by_tests true more row below height e f = let less : height ≤ below = grind (arith, nat_tests) in omega (arith, less)
by_tests false true row below height e f =
    let less : row ≤ below = grind (arith, nat_tests) in
    let high : below < height = grind (arith, nat_tests) in omega (arith, less, high)
by_tests false false row below height e f =
    let less : below < row = grind (arith, nat_tests) in
    let high : below < height = grind (arith, nat_tests) in omega (arith, less, high)

pub near_height : (row below height : ℕ) → (near_rows row below height).1 ≡ min height (max below row)
near_height row below height = by_tests (leb height below) (leb row below) row below height refl refl

-- ---- rows filled up

pub fill_more : (attrs : Attrs) (width : ℕ) (row : List Cell) → length row < width → filled_with attrs width (row ++ narrow 32 attrs ∷ []) ≡ filled_with attrs width row
fill_more attrs width row short =
    let space = narrow 32 attrs in
    let left : width - length row ≡ suc (width - length (row ++ space ∷ [])) = omega (arith, length-append row (space ∷ []), short) in
    append_assoc row (space ∷ []) (replicate (width - length (row ++ space ∷ [])) space)
    ∙ sym (ap (λ (n : ℕ). row ++ replicate n space) left)

pub fill_end : (attrs : Attrs) (width : ℕ) (row : List Cell) → width ≤ length row → filled_with attrs width row ≡ row
fill_end attrs width row long =
    let none : width - length row ≡ 0 = omega (arith, long) in
    ap (λ (n : ℕ). row ++ replicate n (narrow 32 attrs)) none ∙ append-nil row

-- ---- the first row of a line

-- it is not longer than the width
pub first_fits : (width : ℕ) (cells row copy : List Cell) (rows : List (List Cell)) → 1 ≤ width → IsWhole cells → rows ≡ rows_of width cells → slice_get rows 0 ≡ Some row → copy ≡ row → length copy ≤ width
first_fits width cells row copy [] some whole is got same = cc
first_fits width cells row copy (first ∷ rows) some whole is got same =
    let held = All-head (IsHeld width) first rows (subst (All (IsHeld width)) (sym is) (held-rows_of width cells some whole)) in
    let here : first ≡ row = cc in
    omega (arith, held.fits, ap length here, ap length same)

-- a row that is not longer than its width is as long when it is filled up
pub filled_long : (attrs : Attrs) (width : ℕ) (row all : List Cell) → length row ≤ width → all ≡ filled_with attrs width row → length all ≡ width
filled_long attrs width row all fits is =
    omega (
      arith,
      fits,
      ap length is,
      length-append row (replicate (width - length row) (narrow 32 attrs)),
      length-replicate (width - length row) (narrow 32 attrs),
    )

-- ---- the rows of items

pub rows_more : (row_of : ℕ → List Cell) (lines all : List (List Cell)) (row : List Cell) (first at : ℕ) → lines ≡ map row_of (range_with_len first at) → row ≡ row_of (first + at) → all ≡ lines ++ row ∷ [] → all ≡ map row_of (range_with_len first (at + 1))
rows_more row_of lines all row first at so_far is pushed =
    pushed ∙ ap (λ (front : List (List Cell)). front ++ row ∷ []) so_far
    ∙ ap (λ (last : List Cell). map row_of (range_with_len first at) ++ last ∷ []) is
    ∙ sym (map-range_with_len_more row_of first at (first + at) refl)

pub long_more : (cols : ℕ) (lines all : List (List Cell)) (row : List Cell) → All (λ row. length row ≡ cols) lines → length row ≡ cols → all ≡ lines ++ row ∷ [] → All (λ row. length row ≡ cols) all
long_more cols lines all row long one pushed =
    let IsLong : List Cell → Type 0 = λ row. length row ≡ cols in
    subst (All IsLong) (sym pushed) (All-append IsLong lines (row ∷ []) long (All-cons IsLong row [] one (All-nil IsLong)))

pub counted : (row_of : ℕ → List Cell) (lines : List (List Cell)) (first count : ℕ) → lines ≡ map row_of (range_with_len first count) → length lines ≡ count
counted row_of lines first count is = ap length is ∙ length-map-range_with_len row_of first count

-- ---- the menu's content

few_cells : (lines : List (List Cell)) (cols : ℕ) → cols ≤ 1000 → All (λ row. length row ≡ cols) lines → sum_by length lines ≤ 1000 * length lines
few_cells [] cols few long = omega arith
few_cells (line ∷ lines) cols few long =
    omega (
      arith,
      sum_by-cons length line lines,
      few,
      All-head (λ (row : List Cell). length row ≡ cols) line lines long,
      few_cells lines cols few (All-tail (λ (row : List Cell). length row ≡ cols) line lines long),
    )

first_long : (lines : List (List Cell)) (cols : ℕ) → 1 ≤ length lines → All (λ row. length row ≡ cols) lines → length (line_at lines 0) ≡ cols
first_long [] cols some long = absurd (omega (arith, some))
first_long (line ∷ lines) cols some long = All-head (λ (row : List Cell). length row ≡ cols) line lines long

pub menu_content : (c : Content) (cols : ℕ) → 1 ≤ cols → cols ≤ 1000 → 1 ≤ length c.lines → length c.lines ≤ 16 → All (λ row. length row ≡ cols) c.lines → c.line ≡ 0 → c.cell ≡ 0 → IsContent c
menu_content c cols some few rows few_rows long line cell = record {
  line = omega (arith, line, rows);
  cell = omega (arith, cell, some, ap length (ap (line_at c.lines) line), first_long c.lines cols rows long);
  few = omega (arith, few_rows, few_cells c.lines cols few long);
}
