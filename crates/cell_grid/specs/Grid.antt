-- What a contract sees of a grid: the list of its rows from the top down, each of which is a list of cells.
use Rattle.std.specs.Prelude.{◌≡◌, ℕ, List, [], ◌∷◌, ◌++◌, length, take, drop, replicate, slice_index_or, slice_set}
use Rattle.cell_grid.specs.declared.cell.Cell.{Cell}
use Rattle.cell_grid.specs.Row.{IsWhole, blank_row, laid_at, put_at}

-- this many blank rows of this many columns
abbrev pub blank_rows : ℕ → ℕ → List (List Cell)
blank_rows rows cols = replicate rows (blank_row cols)

-- a row that has this many columns, and a Tail exactly behind each wide Lead
pub record IsRow (cols : ℕ) (cells : List Cell) : Type 0 where
  pub long : length cells ≡ cols
  pub whole : IsWhole cells

-- each of the rows is such a row
abbrev pub AllRows : ℕ → List (List Cell) → Type 0
AllRows cols [] = Unit {0}
AllRows cols (cells ∷ rest) = IsRow cols cells × AllRows cols rest

-- the row at a place, empty where there is none
abbrev pub row_at : List (List Cell) → ℕ → List Cell
row_at rows at = slice_index_or rows at []

-- how many columns the first row has, and so each row of a grid
abbrev pub columns : List (List Cell) → ℕ
columns rows = length (row_at rows 0)

-- the rows with a Lead put at a row and a column
abbrev pub put_in : List (List Cell) → ℕ → ℕ → Cell → List (List Cell)
put_in rows row col lead = slice_set rows row (put_at (row_at rows row) col lead)

-- the rows with those of a part laid over them, from the first row and from a column on
abbrev pub laid_over : List (List Cell) → List (List Cell) → ℕ → List (List Cell)
laid_over rows [] col = rows
laid_over [] (cells ∷ part) col = []
laid_over (row ∷ rows) (cells ∷ part) col = laid_at row col cells ∷ laid_over rows part col

-- the rows with those of a part laid over them, from a row and a column on
abbrev pub blitted : List (List Cell) → List (List Cell) → ℕ → ℕ → List (List Cell)
blitted rows part row col = take row rows ++ laid_over (drop row rows) part col
