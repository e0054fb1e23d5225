-- The rows of a line are the longest fronts that fit, and its cells in their order.
use Prim.Native.Nat.{zero, suc}
use Rattle.std.proofs.Common.{◌≡◌, ℕ, ◌+◌, ◌-◌, ◌≤◌, ◌<◌, ◌⊎◌, if◌then◌else◌, leb, inl, inr, Bool, true, false, List, [], ◌∷◌, length, get_or, take, drop, refl, sym, ap, ◌∙◌, subst, arith, All, length-drop}
use Rattle.std.specs.List.{flat_map}
use Rattle.std.proofs.lemmas.Bool.{cases_lt}
use Rattle.std.proofs.lemmas.List.Elements.{All-nil, All-cons}
use Rattle.cell_grid.specs.declared.cell.Cell.{Cell}
use Rattle.cell_grid.specs.declared.cell.Cell.TheVariants.{Lead, Tail}
use Rattle.cell_grid.specs.Cell.{blank}
use Rattle.cell_grid.specs.Row.{IsWhole}
use Rattle.win_view.specs.FirstRow.{IsFirstRow, first_columns}
use Rattle.win_view.specs.Greedy.{IsGreedy, IsHeld}
use Rattle.win_view.specs.Rows.{holdable, onto_first, flowed, rows_of}
use Rattle.win_view.proofs.Flows.{some_behind}
use Rattle.win_view.proofs.Holds.{one_or_more, whole-holdable}
use Rattle.win_view.proofs.FirstRows.{all_in_first, first_at, first_before, first_of_two, first_of_more, only_row, some_in_first}

-- ---- the rows joined are the cells

abbrev joined : List (List Cell) → List Cell
joined rows = flat_map (λ row. row) rows

joined-onto : (cell : Cell) (rows : List (List Cell)) → joined (onto_first cell rows) ≡ cell ∷ joined rows
joined-onto cell [] = refl
joined-onto cell (row ∷ rows) = refl

joined-if : (test : Bool) (cell : Cell) (cells : List Cell) (fit broken : List (List Cell)) → joined fit ≡ cells → joined broken ≡ cells → joined (if test then onto_first cell fit else [] ∷ onto_first cell broken) ≡ cell ∷ cells
joined-if true cell cells fit broken fits breaks = joined-onto cell fit ∙ ap (λ (rest : List Cell). cell ∷ rest) fits
joined-if false cell cells fit broken fits breaks = joined-onto cell broken ∙ ap (λ (rest : List Cell). cell ∷ rest) breaks

pub joined-flowed : (width room : ℕ) (cells : List Cell) → joined (flowed width room cells) ≡ cells
joined-flowed width room [] = refl
joined-flowed width room (Tail ∷ cells) = joined-onto Tail (flowed width room cells) ∙ ap (λ (rest : List Cell). Tail ∷ rest) (joined-flowed width room cells)
joined-flowed width room (Lead text columns attrs ∷ cells) =
    joined-if (leb columns room) (Lead text columns attrs) cells (flowed width (room - columns) cells) (flowed width (width - columns) cells)
    (joined-flowed width (room - columns) cells) (joined-flowed width (width - columns) cells)

pub joined-rows_of : (width : ℕ) (cells : List Cell) → joined (rows_of width cells) ≡ holdable width cells
joined-rows_of width cells = joined-flowed width width (holdable width cells)

-- ---- each line has a first row

pub record HasFirst (width : ℕ) (cells : List Cell) : Type 0 where
  pub count : ℕ
  pub first : IsFirstRow width cells count

tail_or_lead : (cell : Cell) → (cell ≡ Tail) ⊎ (cell ≡ Tail → ⊥)
tail_or_lead (Lead text columns attrs) = inr (λ tail. cc)
tail_or_lead Tail = inl refl

pub first_of : (width : ℕ) (cells : List Cell) → 1 ≤ width → IsWhole cells → HasFirst width cells
first_of width cells some whole =
    elim (cases_lt width (length cells)) [
      | inr all ↦ record { count = length cells; first = all_in_first width cells some whole all }
      | inl more ↦
          elim (tail_or_lead (get_or cells width blank)) [
            | inr lead ↦ record { count = width; first = first_at width cells blank some whole more lead }
            | inl tail ↦
                elim (one_or_more width some) [
                  | inr wide ↦ record { count = width - 1; first = first_before width cells blank wide whole more tail }
                  | inl one ↦
                      subst (λ (n : ℕ). n < length cells → get_or cells n blank ≡ Tail → HasFirst n cells) one
                      (λ two half. record { count = 2; first = first_of_two cells blank whole two half }) more tail
                ]
          ]
    ]

-- ---- greedy rows

held_first : (width count : ℕ) (cells : List Cell) → 1 ≤ width → IsFirstRow width cells count → IsHeld width (holdable width (take count cells))
held_first width count cells some first = record { whole = whole-holdable width (take count cells) some first.front; fits = first.fits }

first_columns-le : (row : List Cell) → IsWhole row → first_columns row ≤ length row
first_columns-le [] whole = omega arith
first_columns-le (Tail ∷ row) whole = absurd whole
first_columns-le (Lead text columns attrs ∷ row) whole =
    elim whole [ inl h ↦ omega (arith, h.0) | inr h ↦ omega (arith, h.0, some_behind row h.1) ]

pub greedy-head : (width : ℕ) (row : List Cell) (rows : List (List Cell)) → IsGreedy width (row ∷ rows) → IsHeld width row
greedy-head width row [] greedy = greedy
greedy-head width row (next ∷ rows) greedy = greedy.0

-- a row before such rows
starts_next : (width : ℕ) (row next : List Cell) (rows : List (List Cell)) → IsHeld width row → width < length row + first_columns (joined (next ∷ rows)) → IsGreedy width (next ∷ rows) → width < length row + first_columns next
starts_next width row (Lead text columns attrs ∷ next) rows held full greedy = full
starts_next width row (Tail ∷ next) rows held full greedy = full
starts_next width row [] [] held full greedy = absurd (omega (arith, held.fits))
starts_next width row [] (other ∷ rows) held full greedy =
    let head = greedy-head width other rows greedy.2 in
    absurd (omega (arith, greedy.1, head.fits, first_columns-le other head.whole))

greedy-cons : (width : ℕ) (row : List Cell) (rows : List (List Cell)) → IsHeld width row → width < length row + first_columns (joined rows) → IsGreedy width rows → IsGreedy width (row ∷ rows)
greedy-cons width row [] held full greedy = absurd greedy
greedy-cons width row (next ∷ rows) held full greedy = (held, starts_next width row next rows held full greedy, greedy)

greedy_one : (width count : ℕ) (cells : List Cell) → 1 ≤ width → IsFirstRow width cells count → length cells ≤ count → IsGreedy width (rows_of width cells)
greedy_one width count cells some first all =
    subst (IsGreedy width) (sym (only_row width count cells some first all)) (held_first width count cells some first)

greedy_upto : (most width : ℕ) (cells : List Cell) → length cells ≤ most → 1 ≤ width → IsWhole cells → IsGreedy width (rows_of width cells)
greedy_upto zero width cells few some whole =
    let it = first_of width cells some whole in greedy_one width it.count cells some it.first (omega arith)
greedy_upto (suc most) width cells few some whole =
    let it = first_of width cells some whole in
    elim (cases_lt it.count (length cells)) [
      | inr all ↦ greedy_one width it.count cells some it.first all
      | inl more ↦
          let behind = drop it.count cells in
          let rest = greedy_upto most width behind (omega (arith, length-drop it.count cells, some_in_first width it.count cells some it.first more)) some it.first.back in
          let full = subst (λ (next : List Cell). width < length (holdable width (take it.count cells)) + first_columns next) (sym (joined-rows_of width behind)) (it.first.full more) in
          subst (IsGreedy width) (sym (first_of_more width it.count cells some it.first more))
          (greedy-cons width (holdable width (take it.count cells)) (rows_of width behind) (held_first width it.count cells some it.first) full rest)
    ]

pub greedy-rows_of : (width : ℕ) (cells : List Cell) → 1 ≤ width → IsWhole cells → IsGreedy width (rows_of width cells)
greedy-rows_of width cells some whole = greedy_upto (length cells) width cells (omega arith) some whole

-- ---- so each row is whole and fits

all_held : (width : ℕ) (rows : List (List Cell)) → IsGreedy width rows → All (IsHeld width) rows
all_held width [] greedy = absurd greedy
all_held width (row ∷ []) greedy = All-cons (IsHeld width) row [] greedy (All-nil (IsHeld width))
all_held width (row ∷ next ∷ rows) greedy = All-cons (IsHeld width) row (next ∷ rows) greedy.0 (all_held width (next ∷ rows) greedy.2)

pub held-rows_of : (width : ℕ) (cells : List Cell) → 1 ≤ width → IsWhole cells → All (IsHeld width) (rows_of width cells)
held-rows_of width cells some whole = all_held width (rows_of width cells) (greedy-rows_of width cells some whole)
