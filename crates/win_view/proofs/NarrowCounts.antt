-- How many rows there are of cells of one column each, behind whole cells that fit on a row.
use Prim.Native.Nat.{zero, suc}
use Rattle.std.proofs.Common.{◌≡◌, ℕ, ◌+◌, ◌-◌, ◌/◌, ◌≤◌, ◌<◌, min, inl, inr, false, List, [], ◌∷◌, ◌++◌, length, refl, sym, ap, ◌∙◌, subst, arith, append-nil}
use Rattle.std.specs.Int.{div_ceil}
use Rattle.std.specs.List.{flat_map}
use Rattle.std.proofs.Math.Nat.{add-div_right, add-mod_right, div-eq_of_lt, mod-eq_of_lt, zero-div, zero-mod}
use Rattle.std.proofs.lemmas.Bool.{cases_lt}
use Rattle.std.proofs.lemmas.List.Elements.{All-nil, All-head, All-tail}
use Rattle.cell_grid.specs.declared.attrs.Attrs.{Attrs}
use Rattle.cell_grid.specs.declared.cell.Cell.{Cell}
use Rattle.cell_grid.specs.declared.cell.Cell.TheVariants.{Lead, Tail}
use Rattle.cell_grid.specs.Row.{IsWhole}
use Rattle.win_view.specs.Rows.{IsNarrow, AllNarrow, narrowed_cell, holdable, onto_first, flowed, rows_of}
use Rattle.win_view.proofs.Flows.{flowed-fits, flowed-breaks, flowed-front, in_front, some_row}
use Rattle.win_view.proofs.Holds.{one_or_more, holdable-wide, holdable-append, whole-holdable}

-- ---- quotients rounded up

ceil_none : (width : ℕ) → div_ceil 0 width ≡ 0
ceil_none width = rw (zero-div width, zero-mod width) refl

ceil_more : (n width : ℕ) → 1 ≤ width → div_ceil (n + width) width ≡ suc (div_ceil n width)
ceil_more n width some =
    let quotient : (n + width) / width ≡ n / width + 1 = add-div_right n (omega arith) in
    rw (quotient, add-mod_right n width) (omega arith)

ceil_last : (n width : ℕ) → n < width → div_ceil (suc n) width ≡ 1
ceil_last n width fits =
    elim (cases_lt (suc n) width) [
      | inl less ↦ rw (div-eq_of_lt less, mod-eq_of_lt less) (omega arith)
      | inr full ↦
          let same : suc n ≡ 0 + width = omega arith in
          ap (λ (k : ℕ). div_ceil k width) same ∙ ceil_more 0 width (omega arith) ∙ ap suc (ceil_none width)
    ]

ceil_step : (width n : ℕ) → 1 ≤ width → div_ceil (suc n) width ≡ suc (div_ceil (suc n - width) width)
ceil_step width n some =
    elim (cases_lt n width) [
      | inl last ↦ let none : suc n - width ≡ 0 = omega arith in ceil_last n width last ∙ sym (ap suc (ap (λ (k : ℕ). div_ceil k width) none ∙ ceil_none width))
      | inr more ↦ let parts : suc n ≡ suc n - width + width = omega arith in ap (λ (k : ℕ). div_ceil k width) parts ∙ ceil_more (suc n - width) width some
    ]

-- ---- cells of one column each

-- a cell on the first row adds no row
pub length-onto_first : (cell : Cell) (rows : List (List Cell)) → 1 ≤ length rows → length (onto_first cell rows) ≡ length rows
length-onto_first cell [] some = absurd (omega arith)
length-onto_first cell (row ∷ rows) some = refl

abbrev flow_of : ℕ → ℕ → List Cell → ℕ
flow_of width room cells = length (flowed width room cells)

fits_one : (width room : ℕ) (text : List ℕ) (columns : ℕ) (attrs : Attrs) (cells : List Cell) → columns ≤ room → flow_of width room (Lead text columns attrs ∷ cells) ≡ flow_of width (room - columns) cells
fits_one width room text columns attrs cells fits =
    ap length (flowed-fits width room text columns attrs cells fits)
    ∙ length-onto_first (Lead text columns attrs) (flowed width (room - columns) cells) (some_row width (room - columns) cells)

length-flowed-narrow : (width room : ℕ) (cells : List Cell) → 1 ≤ width → AllNarrow cells → flow_of width room cells ≡ suc (div_ceil (length cells - room) width)
length-flowed-narrow width room [] some narrow =
    let none : 0 - room ≡ 0 = omega arith in sym (ap suc (ap (λ (k : ℕ). div_ceil k width) none ∙ ceil_none width))
length-flowed-narrow width room (Tail ∷ cells) some narrow = absurd (All-head IsNarrow Tail cells narrow)
length-flowed-narrow width zero (Lead text columns attrs ∷ cells) some narrow =
    let one : columns ≡ 1 = All-head IsNarrow (Lead text columns attrs) cells narrow in
    let left : length cells - (width - columns) ≡ suc (length cells) - width = omega arith in
    let all : suc (length cells) ≡ suc (length cells) - 0 = omega arith in
    ap length (flowed-breaks width 0 text columns attrs cells (omega arith) (omega arith))
    ∙ ap suc (fits_one width width text columns attrs cells (omega arith)
    ∙ length-flowed-narrow width (width - columns) cells some (All-tail IsNarrow (Lead text columns attrs) cells narrow)
    ∙ ap (λ (k : ℕ). suc (div_ceil k width)) left ∙ sym (ceil_step width (length cells) some))
    ∙ ap (λ (k : ℕ). suc (div_ceil k width)) all
length-flowed-narrow width (suc room) (Lead text columns attrs ∷ cells) some narrow =
    let one : columns ≡ 1 = All-head IsNarrow (Lead text columns attrs) cells narrow in
    let left : length cells - (suc room - columns) ≡ suc (length cells) - suc room = omega arith in
    fits_one width (suc room) text columns attrs cells (omega arith)
    ∙ length-flowed-narrow width (suc room - columns) cells some (All-tail IsNarrow (Lead text columns attrs) cells narrow)
    ∙ ap (λ (k : ℕ). suc (div_ceil k width)) left

-- ---- behind whole cells that fit

length-in_front : (cells : List Cell) (rows : List (List Cell)) → 1 ≤ length rows → length (in_front cells rows) ≡ length rows
length-in_front cells [] some = absurd (omega arith)
length-in_front cells (row ∷ rows) some = refl

-- such cells are held as they are
narrow_held : (cells : List Cell) → AllNarrow cells → flat_map narrowed_cell cells ≡ cells
narrow_held [] narrow = refl
narrow_held (Tail ∷ cells) narrow = absurd (All-head IsNarrow Tail cells narrow)
narrow_held (Lead text columns attrs ∷ cells) narrow =
    let one : columns ≡ 1 = All-head IsNarrow (Lead text columns attrs) cells narrow in
    rw one (ap (λ (rest : List Cell). Lead text 1 attrs ∷ rest) (narrow_held cells (All-tail IsNarrow (Lead text columns attrs) cells narrow)))

holdable-narrow : (width : ℕ) (cells : List Cell) → 1 ≤ width → AllNarrow cells → holdable width cells ≡ cells
holdable-narrow width cells some narrow =
    elim (one_or_more width some) [
      | inl e ↦ subst (λ (n : ℕ). holdable n cells ≡ cells) e (narrow_held cells narrow)
      | inr wide ↦ holdable-wide width cells wide
    ]

some_held : (cells : List Cell) → IsWhole cells → 1 ≤ length cells → 1 ≤ length (holdable 1 cells)
some_held [] whole some = absurd (omega arith)
some_held (Tail ∷ cells) whole some = absurd whole
some_held (Lead text columns attrs ∷ cells) whole some = omega arith

-- how many columns of the row they take
pub length-held : (width : ℕ) (cells : List Cell) → 1 ≤ width → IsWhole cells → length (holdable width cells) ≤ width → length (holdable width cells) ≡ min (length cells) width
length-held width cells some whole fits =
    elim (one_or_more width some) [
      | inl e ↦ subst (λ (n : ℕ). length (holdable n cells) ≤ n → length (holdable n cells) ≡ min (length cells) n) e (one cells whole) fits
      | inr wide ↦ let same : length (holdable width cells) ≡ length cells = ap length (holdable-wide width cells wide) in omega arith
    ]
  where
    one : (cells : List Cell) → IsWhole cells → length (holdable 1 cells) ≤ 1 → length (holdable 1 cells) ≡ min (length cells) 1
    one [] whole fits = refl
    one (cell ∷ cells) whole fits = omega (arith, some_held (cell ∷ cells) whole (omega arith))

pub length-rows_of-narrow : (width : ℕ) (cells rest : List Cell) → 1 ≤ width → IsWhole cells → length (holdable width cells) ≤ width → AllNarrow rest → length (rows_of width (cells ++ rest)) ≡ suc (div_ceil (length rest - (width - min (length cells) width)) width)
length-rows_of-narrow width cells rest some whole fits narrow =
    let held = holdable width cells in
    let left : width + 0 - length held ≡ width - min (length cells) width = omega (arith, length-held width cells some whole fits) in
    ap (λ (all : List Cell). length (flowed width width all)) (holdable-append width cells rest ∙ ap (λ (back : List Cell). held ++ back) (holdable-narrow width rest some narrow))
    ∙ ap length (flowed-front false width width held rest (whole-holdable width cells some whole) (omega arith))
    ∙ length-in_front held (flowed width (width + 0 - length held) rest) (some_row width (width + 0 - length held) rest)
    ∙ length-flowed-narrow width (width + 0 - length held) rest some narrow
    ∙ ap (λ (k : ℕ). suc (div_ceil (length rest - k) width)) left

-- no cells behind them
pub no_more : (width count : ℕ) (cells : List Cell) → ((rest : List Cell) → AllNarrow rest → length rest ≡ 0 → count ≡ length (rows_of width (cells ++ rest))) → count ≡ length (rows_of width cells)
no_more width count cells counted = counted [] (All-nil IsNarrow) refl ∙ ap (λ (all : List Cell). length (rows_of width all)) (append-nil cells)
