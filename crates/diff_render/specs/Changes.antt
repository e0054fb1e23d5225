-- What differs between two drawings, of which a row that is missing counts as blanks.
use Rattle.std.specs.Prelude.{ℕ, ◌+◌, Bool, true, false, not, List, [], ◌∷◌, slice_index_or}
use Rattle.cell_grid.specs.declared.cell.Cell.{Cell}
use Rattle.cell_grid.specs.Cell.{blank, same_cell}
use Rattle.cell_grid.specs.Row.{blank_row}
use Rattle.cell_grid.specs.Grid.{row_at}

-- the cell at a place of a row, which is blank where there is none
abbrev pub cell_at : List Cell → ℕ → Cell
cell_at row at = slice_index_or row at blank

-- the cells at a place are different
abbrev pub is_changed : List (List Cell) → List (List Cell) → ℕ → ℕ → Bool
is_changed old new row col = not (same_cell (cell_at (row_at old row) col) (cell_at (row_at new row) col))

-- one for two cells that are different
abbrev pub one_if_not : Bool → ℕ
one_if_not true = 0
one_if_not false = 1

-- how many places of two rows have different cells
abbrev pub changed_in : List Cell → List Cell → ℕ
changed_in [] new = 0
changed_in (o ∷ old) [] = 0
changed_in (o ∷ old) (n ∷ new) = one_if_not (same_cell o n) + changed_in old new

-- how many places of two drawings of so many columns have different cells
abbrev pub changed_rows : ℕ → List (List Cell) → List (List Cell) → ℕ
changed_rows cols [] [] = 0
changed_rows cols [] (n ∷ new) = changed_in (blank_row cols) n + changed_rows cols [] new
changed_rows cols (o ∷ old) [] = changed_in o (blank_row cols) + changed_rows cols old []
changed_rows cols (o ∷ old) (n ∷ new) = changed_in o n + changed_rows cols old new
