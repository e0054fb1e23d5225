-- Where a cell of a line stands among the line's rows.
use Prim.Native.Nat.{suc}
use Rattle.std.proofs.Common.{◌≡◌, ℕ, ◌+◌, ◌-◌, ◌≤◌, ◌<◌, List, [], ◌∷◌, length, take, drop, sym, ap, ◌∙◌, arith, length-take-le}
use Rattle.std.proofs.lemmas.List.{take-take}
use Rattle.cell_grid.specs.declared.cell.Cell.{Cell}
use Rattle.cell_grid.specs.declared.cell.Cell.TheVariants.{Lead, Tail}
use Rattle.cell_grid.specs.Row.{IsWhole}
use Rattle.win_view.specs.Contents.{last_row, line_at, rows_to}
use Rattle.win_view.specs.FirstRow.{IsFirstRow}
use Rattle.win_view.specs.Rows.{holdable}
use Rattle.win_view.proofs.Holds.{holdable-wide, length-holdable-take}
use Rattle.win_view.proofs.FirstRows.{rows_to-first, rows_to-behind}
use Rattle.win_view.proofs.RowCounts.{rows_of-some}

pub last_row-cons : (row : List Cell) (rows : List (List Cell)) → 1 ≤ length rows → last_row (row ∷ rows) ≡ last_row rows
last_row-cons row [] some = absurd (omega arith)
last_row-cons row (next ∷ rows) some =
    let place : suc (suc (length rows)) - 1 ≡ suc (suc (length rows) - 1) = omega arith in
    ap (λ (at : ℕ). line_at (row ∷ next ∷ rows) at) place

-- a cell behind the first row stands where it does in the rest of the line
pub record IsSamePlace (width cell at : ℕ) (cells behind : List Cell) : Type 0 where
  pub rows : length (rows_to width cells cell) ≡ suc (length (rows_to width behind at))
  pub last : last_row (rows_to width cells cell) ≡ last_row (rows_to width behind at)

pub place_behind : (width count cell at : ℕ) (cells behind : List Cell) → 1 ≤ width → IsFirstRow width cells count → count ≤ cell → cell < length cells → behind ≡ drop count cells → at ≡ cell - count → IsSamePlace width cell at cells behind
place_behind width count cell at cells behind some first here within is place =
    let rows : rows_to width cells cell ≡ holdable width (take count cells) ∷ rows_to width behind at =
    rows_to-behind width count cell cells some first here within
    ∙ ap (λ (back : List Cell). holdable width (take count cells) ∷ rows_to width back (cell - count)) (sym is)
    ∙ ap (λ (n : ℕ). holdable width (take count cells) ∷ rows_to width behind n) (sym place)
    in
    record {
      rows = ap length rows;
      last = ap last_row rows ∙ last_row-cons (holdable width (take count cells)) (rows_to width behind at) (rows_of-some width (take (at + 1) behind));
    }

-- a cell of the first row
pub rows_here : (width count cell : ℕ) (cells : List Cell) → 1 ≤ width → IsFirstRow width cells count → cell < count → length (rows_to width cells cell) ≡ 1
rows_here width count cell cells some first here = ap length (rows_to-first width count cell cells some first here)

last_here : (width count cell : ℕ) (cells : List Cell) → 1 ≤ width → IsFirstRow width cells count → cell < count → last_row (rows_to width cells cell) ≡ holdable width (take (cell + 1) cells)
last_here width count cell cells some first here = ap last_row (rows_to-first width count cell cells some first here)

pub col_here : (width count cell : ℕ) (cells : List Cell) → 2 ≤ width → IsFirstRow width cells count → cell < count → cell + 1 ≡ length (last_row (rows_to width cells cell))
col_here width count cell cells wide first here =
    sym (ap length (last_here width count cell cells (omega arith) first here ∙ holdable-wide width (take (cell + 1) cells) wide)
    ∙ length-take-le (cell + 1) cells (omega (arith, first.within)))

pub col_within : (width count cell : ℕ) (cells : List Cell) → 2 ≤ width → IsFirstRow width cells count → cell < count → cell < width
col_within width count cell cells wide first here =
    omega (arith, first.fits, ap length (holdable-wide width (take count cells) wide), length-take-le count cells first.within)

some_held : (k : ℕ) (cells : List Cell) → IsWhole cells → 1 ≤ length cells → 1 ≤ length (holdable 1 (take (suc k) cells))
some_held k [] whole some = absurd (omega arith)
some_held k (Tail ∷ cells) whole some = absurd whole
some_held k (Lead text columns attrs ∷ cells) whole some = omega arith

pub col_one : (count cell : ℕ) (cells : List Cell) → IsFirstRow 1 cells count → cell < count → 1 ≡ length (last_row (rows_to 1 cells cell))
col_one count cell cells first here =
    let row = take count cells in
    let short : take (suc cell) row ≡ take (cell + 1) cells =
    let same : suc cell ≡ cell + 1 = omega arith in
    take-take (suc cell) count cells (omega arith) ∙ ap (λ (n : ℕ). take n cells) same
    in
    let long : 1 ≤ length row = omega (arith, length-take-le count cells first.within) in
    let one : 1 ≡ length (holdable 1 (take (suc cell) row)) = omega (arith, some_held cell row first.front long, length-holdable-take 1 (suc cell) row, first.fits) in
    one ∙ ap (λ (front : List Cell). length (holdable 1 front)) short ∙ sym (ap length (last_here 1 count cell cells (omega arith) first here))
