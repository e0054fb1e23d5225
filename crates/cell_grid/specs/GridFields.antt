-- How the rows of a grid lie in its one block of cells.
use Rattle.std.specs.Prelude.{◌≡◌, ℕ, zero, suc, ◌≤◌, ◌*◌, List, [], ◌∷◌, length, take, drop}
use Rattle.cell_grid.specs.declared.cell.Cell.{Cell}
use Rattle.cell_grid.specs.Grid.{AllRows}

-- a block cut into this many rows of this many columns
abbrev pub cut_in_rows : ℕ → ℕ → List Cell → List (List Cell)
cut_in_rows zero cols cells = []
cut_in_rows (suc rows) cols cells = take cols cells ∷ cut_in_rows rows cols (drop cols cells)

-- the block holds exactly these rows of these columns, each of them whole
pub record IsBlock (rows cols : ℕ) (cells : List Cell) : Type 0 where
  pub some_rows : 1 ≤ rows
  pub few_rows : rows ≤ 1000
  pub some_cols : 1 ≤ cols
  pub few_cols : cols ≤ 1000
  pub size : length cells ≡ rows * cols
  pub whole : AllRows cols (cut_in_rows rows cols cells)
