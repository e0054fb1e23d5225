-- What a contract sees of wrapping: the rows of a line, as its cells are put on rows greedily.
use Rattle.std.specs.Prelude.{◌≡◌, ℕ, ◌-◌, List, [], ◌∷◌, All, nat_eq, nat_le, if◌then◌else◌}
use Rattle.std.specs.List.{flat_map}
use Rattle.cell_grid.specs.declared.cell.Cell.{Cell}
use Rattle.cell_grid.specs.declared.cell.Cell.TheVariants.{Lead, Tail}
use Rattle.cell_grid.specs.Cell.{narrow}

-- a cell on a row of one column: a wide character is U+FFFD there, without those that joined it
abbrev pub narrowed_cell : Cell → List Cell
narrowed_cell (Lead text width attrs) = (if nat_eq width 2 then narrow 65533 attrs else Lead text width attrs) ∷ []
narrowed_cell Tail = []

-- the cells as rows of this many columns can hold them
abbrev pub holdable : ℕ → List Cell → List Cell
holdable width cells = if nat_eq width 1 then flat_map narrowed_cell cells else cells

-- a cell at the front of the first row
abbrev pub onto_first : Cell → List (List Cell) → List (List Cell)
onto_first cell [] = (cell ∷ []) ∷ []
onto_first cell (row ∷ rows) = (cell ∷ row) ∷ rows

-- the cells laid out from a row on of whose columns so many are left: a character that does not fit begins a new row
abbrev pub flowed : ℕ → ℕ → List Cell → List (List Cell)
flowed width room [] = [] ∷ []
flowed width room (Lead text columns attrs ∷ cells) =
    if nat_le columns room then onto_first (Lead text columns attrs) (flowed width (room - columns) cells)
    else [] ∷ onto_first (Lead text columns attrs) (flowed width (width - columns) cells)
flowed width room (Tail ∷ cells) = onto_first Tail (flowed width room cells)

-- the rows of a line at this width: one at least
abbrev pub rows_of : ℕ → List Cell → List (List Cell)
rows_of width cells = flowed width width (holdable width cells)

-- each cell is a Lead of one column
abbrev pub IsNarrow : Cell → Type 0
IsNarrow (Lead text columns attrs) = columns ≡ 1
IsNarrow Tail = ⊥

abbrev pub AllNarrow : List Cell → Type 0
AllNarrow cells = All IsNarrow cells
