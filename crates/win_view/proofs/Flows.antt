-- Cells that flow onto rows: one step, a front that fits, and where a row ends.
use Prim.Native.Nat.{zero, suc}
use Rattle.std.proofs.Common.{◌≡◌, ℕ, ◌+◌, ◌-◌, ◌≤◌, ◌<◌, if◌then◌else◌, leb, inl, inr, Bool, true, false, List, [], ◌∷◌, ◌++◌, length, take, refl, sym, ap, ◌∙◌, arith, append-nil}
use Rattle.std.proofs.lemmas.Bool.{le-leb, lt-leb}
use Rattle.cell_grid.specs.declared.attrs.Attrs.{Attrs}
use Rattle.cell_grid.specs.declared.cell.Cell.{Cell}
use Rattle.cell_grid.specs.declared.cell.Cell.TheVariants.{Lead, Tail}
use Rattle.cell_grid.specs.Row.{IsWholeAfter, IsWhole}
use Rattle.win_view.specs.Rows.{onto_first, flowed}

-- ---- one character

pub flowed-fits : (width room : ℕ) (text : List ℕ) (columns : ℕ) (attrs : Attrs) (cells : List Cell) → columns ≤ room → flowed width room (Lead text columns attrs ∷ cells) ≡ onto_first (Lead text columns attrs) (flowed width (room - columns) cells)
flowed-fits width room text columns attrs cells fits = rw (le-leb columns room fits) refl

pub flowed-breaks : (width room : ℕ) (text : List ℕ) (columns : ℕ) (attrs : Attrs) (cells : List Cell) → room < columns → columns ≤ width → flowed width room (Lead text columns attrs ∷ cells) ≡ [] ∷ flowed width width (Lead text columns attrs ∷ cells)
flowed-breaks width room text columns attrs cells breaks fits = rw (lt-leb columns room breaks, le-leb columns width fits) refl

-- the column of a Tail is taken with its Lead
abbrev pub owed : Bool → ℕ
owed true = 1
owed false = 0

pub some_behind : (cells : List Cell) → IsWholeAfter true cells → 1 ≤ length cells
some_behind [] whole = absurd whole
some_behind (cell ∷ cells) whole = omega arith

-- ---- there is a row

some_row_onto : (cell : Cell) (rows : List (List Cell)) → 1 ≤ length (onto_first cell rows)
some_row_onto cell [] = omega arith
some_row_onto cell (row ∷ rows) = omega arith

some_row_if : (test : Bool) (cell : Cell) (fit broken : List (List Cell)) → 1 ≤ length (if test then onto_first cell fit else [] ∷ onto_first cell broken)
some_row_if true cell fit broken = some_row_onto cell fit
some_row_if false cell fit broken = omega arith

pub some_row : (width room : ℕ) (cells : List Cell) → 1 ≤ length (flowed width room cells)
some_row width room [] = omega arith
some_row width room (Tail ∷ cells) = some_row_onto Tail (flowed width room cells)
some_row width room (Lead text columns attrs ∷ cells) =
    some_row_if (leb columns room) (Lead text columns attrs) (flowed width (room - columns) cells) (flowed width (width - columns) cells)

-- ---- cells in front of the first row

abbrev pub in_front : List Cell → List (List Cell) → List (List Cell)
in_front cells [] = cells ∷ []
in_front cells (row ∷ rows) = (cells ++ row) ∷ rows

in_front-nil : (rows : List (List Cell)) → 1 ≤ length rows → rows ≡ in_front [] rows
in_front-nil [] some = absurd (omega arith)
in_front-nil (row ∷ rows) some = refl

in_front-cons : (cell : Cell) (cells : List Cell) (rows : List (List Cell)) → onto_first cell (in_front cells rows) ≡ in_front (cell ∷ cells) rows
in_front-cons cell cells [] = refl
in_front-cons cell cells (row ∷ rows) = refl

in_front-step : (cell : Cell) (cells rest : List Cell) (width room n m : ℕ) → flowed width room (cells ++ rest) ≡ in_front cells (flowed width n rest) → n ≡ m → onto_first cell (flowed width room (cells ++ rest)) ≡ in_front (cell ∷ cells) (flowed width m rest)
in_front-step cell cells rest width room n m flow same =
    ap (onto_first cell) flow ∙ in_front-cons cell cells (flowed width n rest) ∙ ap (λ (left : ℕ). in_front (cell ∷ cells) (flowed width left rest)) same

-- whole cells that fit stand in front of the first row of those behind them
pub flowed-front : (after : Bool) (width room : ℕ) (cells rest : List Cell) → IsWholeAfter after cells → length cells ≤ room + owed after → flowed width room (cells ++ rest) ≡ in_front cells (flowed width (room + owed after - length cells) rest)
flowed-front true width room [] rest whole fits = absurd whole
flowed-front false width room [] rest whole fits =
    let all : room + 0 - 0 ≡ room = omega arith in
    in_front-nil (flowed width room rest) (some_row width room rest) ∙ ap (λ (left : ℕ). in_front [] (flowed width left rest)) (sym all)
flowed-front false width room (Tail ∷ cells) rest whole fits = absurd whole
flowed-front true width room (Lead text columns attrs ∷ cells) rest whole fits = absurd whole
flowed-front true width room (Tail ∷ cells) rest whole fits =
    in_front-step Tail cells rest width room (room + 0 - length cells) (room + 1 - suc (length cells))
    (flowed-front false width room cells rest whole (omega arith)) (omega arith)
flowed-front false width room (Lead text columns attrs ∷ cells) rest whole fits =
    elim whole [
      | inl h ↦
          flowed-fits width room text columns attrs (cells ++ rest) (omega (arith, h.0))
          ∙ in_front-step (Lead text columns attrs) cells rest width (room - columns) (room - columns + 0 - length cells) (room + 0 - suc (length cells))
          (flowed-front false width (room - columns) cells rest h.1 (omega (arith, h.0))) (omega (arith, h.0))
      | inr h ↦
          let behind : 1 ≤ length cells = some_behind cells h.1 in
          flowed-fits width room text columns attrs (cells ++ rest) (omega (arith, h.0))
          ∙ in_front-step (Lead text columns attrs) cells rest width (room - columns) (room - columns + 1 - length cells) (room + 0 - suc (length cells))
          (flowed-front true width (room - columns) cells rest h.1 (omega (arith, h.0))) (omega (arith, h.0))
    ]

-- a front of them, which may part a wide character, is one row
pub flowed-take : (after : Bool) (width room k : ℕ) (cells : List Cell) → IsWholeAfter after cells → length cells ≤ room + owed after → flowed width room (take k cells) ≡ take k cells ∷ []
flowed-take after width room zero cells whole fits = refl
flowed-take after width room (suc k) [] whole fits = refl
flowed-take false width room (suc k) (Tail ∷ cells) whole fits = absurd whole
flowed-take true width room (suc k) (Lead text columns attrs ∷ cells) whole fits = absurd whole
flowed-take true width room (suc k) (Tail ∷ cells) whole fits = ap (onto_first Tail) (flowed-take false width room k cells whole (omega arith))
flowed-take false width room (suc k) (Lead text columns attrs ∷ cells) whole fits =
    elim whole [
      | inl h ↦
          flowed-fits width room text columns attrs (take k cells) (omega (arith, h.0))
          ∙ ap (onto_first (Lead text columns attrs)) (flowed-take false width (room - columns) k cells h.1 (omega (arith, h.0)))
      | inr h ↦
          let behind : 1 ≤ length cells = some_behind cells h.1 in
          flowed-fits width room text columns attrs (take k cells) (omega (arith, h.0))
          ∙ ap (onto_first (Lead text columns attrs)) (flowed-take true width (room - columns) k cells h.1 (omega (arith, h.0)))
    ]

-- ---- a row ends where the next character does not fit

pub flowed-cut : (width : ℕ) (front : List Cell) (text : List ℕ) (columns : ℕ) (attrs : Attrs) (rest : List Cell) → IsWhole front → length front ≤ width → width < length front + columns → columns ≤ width → flowed width width (front ++ Lead text columns attrs ∷ rest) ≡ front ∷ flowed width width (Lead text columns attrs ∷ rest)
flowed-cut width front text columns attrs rest whole fits full narrow =
    flowed-front false width width front (Lead text columns attrs ∷ rest) whole (omega arith)
    ∙ ap (in_front front) (flowed-breaks width (width + 0 - length front) text columns attrs rest (omega arith) narrow)
    ∙ ap (λ (row : List Cell). row ∷ flowed width width (Lead text columns attrs ∷ rest)) (append-nil front)
