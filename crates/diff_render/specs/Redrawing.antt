-- What a contract sees of a row that is redrawn, cell by cell and as a whole.
use Rattle.std.specs.Prelude.{◌≡◌, ℕ, ◌+◌, ◌-◌, ◌*◌, ◌<◌, ◌≤◌, Bool, true, false, List, [], ◌∷◌, ◌++◌, length, take}
use Rattle.std.specs.Prelude.{drop}
use Rattle.cell_grid.specs.declared.cell.Cell.{Cell}
use Rattle.cell_grid.specs.declared.cell.Cell.TheVariants.{Lead, Tail}
use Rattle.cell_grid.specs.Cell.{blank, same_cell}
use Rattle.cell_grid.specs.Row.{mend_start, put_at}
use Rattle.cell_grid.specs.Grid.{blank_rows}
use Rattle.diff_render.specs.Canvas.{Canvas}
use Rattle.diff_render.specs.Changes.{cell_at, one_if_not, changed_in}
use Rattle.diff_render.specs.Writer.{written, IsPlaced, IsSameScreen, Stood}
use Rattle.diff_render.specs.declared.writer.Writer.{Writer}

-- what stands from a column on, whose cells so far have been redrawn: the half of a wide cell that was covered is blank
abbrev pub settled : List Cell → List Cell → List Cell
settled [] old = mend_start old
settled (Lead text width attrs ∷ new) old = mend_start old
settled (Tail ∷ new) old = Tail ∷ mend_start (drop 1 old)

-- a line whose cells before a column have been redrawn
abbrev pub half_drawn : List Cell → List Cell → ℕ → List Cell
half_drawn old new at = take at new ++ settled (drop at new) (drop at old)

-- a line after one column of it was looked at, where the cells differ or not
abbrev pub redone_by : Bool → List Cell → ℕ → Cell → List Cell
redone_by true line at cell = line
redone_by false line at cell = put_at line at cell

abbrev pub redone : List Cell → ℕ → Cell → Cell → List Cell
redone line at o (Lead text width attrs) = redone_by (same_cell o (Lead text width attrs)) line at (Lead text width attrs)
redone line at o Tail = line

-- where two rows differ, a place of this row passes
abbrev pub MayTouch : (ℕ → ℕ → Bool) → ℕ → List Cell → List Cell → Type 0
MayTouch ok row old new = (at : ℕ) → same_cell (cell_at old at) (cell_at new at) ≡ false → ok row at ≡ true

-- a writer has looked at one column of its line
pub record Redraws (w v : Writer) (at : ℕ) (o n : Cell) : Type 0 where
  pub stands : (ok : ℕ → ℕ → Bool) (from : Canvas) (above below : List (List Cell)) (line : List Cell)
      → length above ≡ w.row → length line ≡ w.cols → (same_cell o n ≡ false → ok w.row at ≡ true)
      → Stood ok w from (above ++ line ∷ below) → Stood ok v from (above ++ redone line at o n ∷ below)
  pub to_row : v.row ≡ w.row
  pub same : IsSameScreen w v
  pub placed : IsPlaced v
  pub short : length (written v) ≤ length (written w) + 128 * one_if_not (same_cell o n)

-- a writer has redrawn its line before a column: what is left is paid already
pub record RowSoFar (w v : Writer) (old new : List Cell) (at : ℕ) : Type 0 where
  pub stands : (ok : ℕ → ℕ → Bool) (from : Canvas) (above below : List (List Cell)) → length above ≡ w.row → MayTouch ok w.row old new
      → Stood ok w from (above ++ old ∷ below) → Stood ok v from (above ++ half_drawn old new at ∷ below)
  pub to_row : v.row ≡ w.row
  pub same : IsSameScreen w v
  pub placed : IsPlaced v
  pub short : length (written v) + 128 * changed_in (drop at old) (drop at new) ≤ length (written w) + 128 * changed_in old new

-- a writer has redrawn a line of this number
pub record Updates (w v : Writer) (row : ℕ) (old new : List Cell) (cost : ℕ) : Type 0 where
  pub stands : (ok : ℕ → ℕ → Bool) (from : Canvas) (above below : List (List Cell)) → length above ≡ row → MayTouch ok row old new
      → Stood ok w from (above ++ old ∷ below) → Stood ok v from (above ++ new ∷ below)
  pub same : IsSameScreen w v
  pub placed : IsPlaced v
  pub short : length (written v) + (row + 1 - v.row) ≤ length (written w) + (row - w.row) + cost + 128 * changed_in old new

-- a writer has redrawn a line of this number before a column, and erased all from there on
pub record ErasesFrom (w v : Writer) (row col : ℕ) (old new : List Cell) : Type 0 where
  pub stands : (ok : ℕ → ℕ → Bool) (from : Canvas) (above below : List (List Cell)) → length above ≡ row → MayTouch ok row old new
      → Stood ok w from (above ++ old ∷ below) → Stood ok v from (above ++ new ∷ blank_rows (length below) w.cols)
  pub to_row : v.row ≡ row
  pub same : IsSameScreen w v
  pub placed : IsPlaced v
  pub short : length (written v) + 128 * changed_in (drop col old) (drop col new) ≤ length (written w) + (row - w.row) + 19 + 128 * changed_in old new

-- all cells of a row from a column on are blank
abbrev pub IsBlankFrom : ℕ → List Cell → Type 0
IsBlankFrom at cells = (k : ℕ) → at ≤ k → k < length cells → cell_at cells k ≡ blank
