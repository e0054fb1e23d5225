-- How many rows there are at most.
use Prim.Native.Nat.{suc}
use Rattle.std.proofs.Common.{◌≡◌, ℕ, ◌+◌, ◌-◌, ◌≤◌, ◌<◌, if◌then◌else◌, leb, Bool, true, false, List, [], ◌∷◌, ◌++◌, length, get_or, take, drop, sym, ap, ◌∙◌, arith, append-nil, length-append, sum_by, take-append-drop}
use Rattle.std.specs.List.{flat_map}
use Rattle.std.proofs.lemmas.List.{take_more}
use Rattle.std.proofs.lemmas.List.Concat.{flat_map-append}
use Rattle.std.proofs.lemmas.List.Folds.{length-flat_map-take}
use Rattle.std.proofs.lemmas.List.Sums.{sum_by-cons}
use Rattle.cell_grid.specs.declared.cell.Cell.{Cell}
use Rattle.cell_grid.specs.declared.cell.Cell.TheVariants.{Lead, Tail}
use Rattle.win_view.specs.Rows.{holdable, onto_first, flowed, rows_of}
use Rattle.win_view.proofs.Flows.{some_row}
use Rattle.win_view.proofs.FirstRows.{length-holdable}
use Rattle.win_view.proofs.Holds.{holdable-append}

-- ---- a cell adds one row at most

onto_few : (cell : Cell) (rows : List (List Cell)) (n : ℕ) → length rows ≤ suc n → length (onto_first cell rows) ≤ suc n
onto_few cell [] n few = omega arith
onto_few cell (row ∷ rows) n few = few

if_few : (test : Bool) (cell : Cell) (fit broken : List (List Cell)) (n : ℕ) → length fit ≤ suc n → length broken ≤ suc n → length (if test then onto_first cell fit else [] ∷ onto_first cell broken) ≤ suc (suc n)
if_few true cell fit broken n fit_few broken_few = omega (arith, onto_few cell fit n fit_few)
if_few false cell fit broken n fit_few broken_few = omega (arith, onto_few cell broken n broken_few)

flowed-few : (width room : ℕ) (cells : List Cell) → length (flowed width room cells) ≤ suc (length cells)
flowed-few width room [] = omega arith
flowed-few width room (Tail ∷ cells) = omega (arith, onto_few Tail (flowed width room cells) (length cells) (flowed-few width room cells))
flowed-few width room (Lead text columns attrs ∷ cells) =
    if_few (leb columns room) (Lead text columns attrs) (flowed width (room - columns) cells) (flowed width (width - columns) cells) (length cells)
    (flowed-few width (room - columns) cells) (flowed-few width (width - columns) cells)

pub rows_of-few : (width : ℕ) (cells : List Cell) → 1 ≤ width → length (rows_of width cells) ≤ length cells + 1
rows_of-few width cells some = omega (arith, flowed-few width width (holdable width cells), length-holdable width cells some)

pub rows_of-some : (width : ℕ) (cells : List Cell) → 1 ≤ length (rows_of width cells)
rows_of-some width cells = some_row width width (holdable width cells)

-- so lines have few rows where they and their cells are few
pub lines_few : (width : ℕ) (lines : List (List Cell)) → 1 ≤ width → length (flat_map (rows_of width) lines) ≤ length lines + sum_by length lines
lines_few width [] some = omega arith
lines_few width (line ∷ lines) some =
    omega (
      arith,
      lines_few width lines some,
      rows_of-few width line some,
      length-append (rows_of width line) (flat_map (rows_of width) lines),
      sum_by-cons length line lines,
    )

-- the next line adds its rows
pub lines_next : (width i : ℕ) (lines : List (List Cell)) (line : List Cell) → i < length lines → line ≡ get_or lines i line → flat_map (rows_of width) (take i lines) ++ rows_of width line ≡ flat_map (rows_of width) (take (i + 1) lines)
lines_next width i lines line within is =
    let before = flat_map (rows_of width) (take i lines) in
    let last : rows_of width (get_or lines i line) ++ [] ≡ rows_of width line = append-nil (rows_of width (get_or lines i line)) ∙ ap (rows_of width) (sym is) in
    sym (ap (flat_map (rows_of width)) (take_more lines i line within)
    ∙ flat_map-append (rows_of width) (take i lines) (get_or lines i line ∷ [])
    ∙ ap (λ (rows : List (List Cell)). before ++ rows) last)

pub lines_more : (width i : ℕ) (lines : List (List Cell)) (line : List Cell) → i < length lines → line ≡ get_or lines i line → length (flat_map (rows_of width) (take i lines)) + length (rows_of width line) ≡ length (flat_map (rows_of width) (take (i + 1) lines))
lines_more width i lines line within is =
    sym (length-append (flat_map (rows_of width) (take i lines)) (rows_of width line)) ∙ ap length (lines_next width i lines line within is)

pub lines_below : (width i : ℕ) (lines : List (List Cell)) (line : List Cell) → 1 ≤ width → i < length lines → line ≡ get_or lines i line → length (flat_map (rows_of width) (take i lines)) + length (rows_of width line) ≤ length lines + sum_by length lines
lines_below width i lines line some within is =
    omega (arith, lines_few width lines some, length-flat_map-take (rows_of width) lines i line within, ap (λ (cells : List Cell). length (rows_of width cells)) is)

-- ---- a front of the cells has no more rows

onto_le : (cell : Cell) (rows more : List (List Cell)) → length rows ≤ length more → length (onto_first cell rows) ≤ length (onto_first cell more)
onto_le cell [] [] le = omega arith
onto_le cell [] (row ∷ more) le = omega arith
onto_le cell (row ∷ rows) [] le = absurd (omega arith)
onto_le cell (row ∷ rows) (other ∷ more) le = le

if_le : (test : Bool) (cell : Cell) (fit fit_more broken broken_more : List (List Cell)) → length fit ≤ length fit_more → length broken ≤ length broken_more → length (if test then onto_first cell fit else [] ∷ onto_first cell broken) ≤ length (if test then onto_first cell fit_more else [] ∷ onto_first cell broken_more)
if_le true cell fit fit_more broken broken_more fit_le broken_le = onto_le cell fit fit_more fit_le
if_le false cell fit fit_more broken broken_more fit_le broken_le = omega (arith, onto_le cell broken broken_more broken_le)

flowed-le : (width room : ℕ) (front back : List Cell) → length (flowed width room front) ≤ length (flowed width room (front ++ back))
flowed-le width room [] back = some_row width room back
flowed-le width room (Tail ∷ front) back = onto_le Tail (flowed width room front) (flowed width room (front ++ back)) (flowed-le width room front back)
flowed-le width room (Lead text columns attrs ∷ front) back =
    if_le (leb columns room) (Lead text columns attrs)
    (flowed width (room - columns) front) (flowed width (room - columns) (front ++ back))
    (flowed width (width - columns) front) (flowed width (width - columns) (front ++ back))
    (flowed-le width (room - columns) front back) (flowed-le width (width - columns) front back)

pub rows_of-take-le : (width k : ℕ) (cells : List Cell) → length (rows_of width (take k cells)) ≤ length (rows_of width cells)
rows_of-take-le width k cells =
    omega (
      arith,
      flowed-le width width (holdable width (take k cells)) (holdable width (drop k cells)),
      ap (λ (held : List Cell). length (flowed width width held)) (holdable-append width (take k cells) (drop k cells)),
      ap (λ (all : List Cell). length (rows_of width all)) (take-append-drop k cells),
    )
