-- What a contract sees of a writer: where its bytes lead from whatever canvas they began at.
use Rattle.std.specs.Prelude.{◌≡◌, ℕ, ◌+◌, ◌-◌, ◌<◌, ◌≤◌, Bool, true, List, [], ◌∷◌, ◌++◌, length}
use Rattle.std.specs.String.{string_bytes}
use Rattle.cell_grid.specs.declared.cell.Cell.{Cell}
use Rattle.cell_grid.specs.declared.attrs.Attrs.{Attrs}
use Rattle.cell_grid.specs.Row.{blank_row, laid_at, put_at}
use Rattle.cell_grid.specs.Grid.{blank_rows}
use Rattle.diff_render.specs.Canvas.{Canvas, canvas_of, Draws}
use Rattle.diff_render.specs.declared.writer.Writer.{Writer}

-- the bytes so far
abbrev pub written : Writer → List ℕ
written w = string_bytes w.out

-- the canvas that a writer knows, with these lines
abbrev pub canvas_at : Writer → List (List Cell) → Canvas
canvas_at w lines = canvas_of lines w.row w.col w.pen

-- the writer stands on one of its lines, which are no more than the screen has rows
pub record IsPlaced (w : Writer) : Type 0 where
  pub few_rows : w.rows ≤ 500
  pub few_cols : w.cols ≤ 1000
  pub tall : w.height ≤ w.rows
  pub on_line : w.row < w.height
  pub in_line : w.col < w.cols

-- the bytes so far lead from a canvas to the one that the writer knows, which has these lines
pub record Stood (ok : ℕ → ℕ → Bool) (w : Writer) (from : Canvas) (lines : List (List Cell)) : Type 0 where
  pub drawn : Draws w.rows w.cols ok (written w) from (canvas_at w lines)
  pub count : length lines ≡ w.height

-- the size and the number of lines stay
pub record IsSameScreen (old new : Writer) : Type 0 where
  pub rows : new.rows ≡ old.rows
  pub cols : new.cols ≡ old.cols
  pub height : new.height ≡ old.height

-- the writer goes to a place and takes a pen, for at most so many bytes, and no line changes
pub record Moves (old new : Writer) (row col : ℕ) (pen : Attrs) (cost : ℕ) : Type 0 where
  pub stands : (ok : ℕ → ℕ → Bool) (from : Canvas) (lines : List (List Cell)) → Stood ok old from lines → Stood ok new from lines
  pub to_row : new.row ≡ row
  pub to_col : new.col ≡ col
  pub to_pen : new.pen ≡ pen
  pub same : IsSameScreen old new
  pub placed : IsPlaced new
  pub short : length (written new) ≤ length (written old) + cost

-- a blank line comes behind the others, and the writer stands on it
pub record Grows (old new : Writer) : Type 0 where
  pub stands : (ok : ℕ → ℕ → Bool) (from : Canvas) (lines : List (List Cell)) → Stood ok old from lines
      → Stood ok new from (lines ++ blank_row old.cols ∷ [])
  pub to_row : new.row ≡ old.row + 1
  pub to_col : new.col ≡ old.col
  pub to_pen : new.pen ≡ old.pen
  pub rows : new.rows ≡ old.rows
  pub cols : new.cols ≡ old.cols
  pub height : new.height ≡ old.height + 1
  pub placed : IsPlaced new
  pub short : length (written new) ≤ length (written old) + 1

-- the writer's line changes by a cell that is put at the writer's place, and nothing else is printed, for at most so many bytes
pub record Writes (old new : Writer) (cell : Cell) (cost : ℕ) : Type 0 where
  pub stands : (ok : ℕ → ℕ → Bool) (from : Canvas) (above below : List (List Cell)) (line : List Cell)
      → length above ≡ old.row → length line ≡ old.cols → ok old.row old.col ≡ true
      → Stood ok old from (above ++ line ∷ below) → Stood ok new from (above ++ put_at line old.col cell ∷ below)
  pub to_row : new.row ≡ old.row
  pub to_pen : new.pen ≡ old.pen
  pub same : IsSameScreen old new
  pub placed : IsPlaced new
  pub short : length (written new) ≤ length (written old) + cost

-- the writer's line becomes blank from the writer's place on
pub record Erases (old new : Writer) : Type 0 where
  pub stands : (ok : ℕ → ℕ → Bool) (from : Canvas) (above below : List (List Cell)) (line : List Cell) → length above ≡ old.row
      → Stood ok old from (above ++ line ∷ below) → Stood ok new from (above ++ laid_at line old.col (blank_row (old.cols - old.col)) ∷ below)
  pub to_row : new.row ≡ old.row
  pub to_col : new.col ≡ old.col
  pub to_pen : new.pen ≡ old.pen
  pub same : IsSameScreen old new
  pub placed : IsPlaced new
  pub short : length (written new) ≤ length (written old) + 3

-- the writer's line becomes blank from the writer's place on, and so do all lines below
pub record ErasesBelow (old new : Writer) : Type 0 where
  pub stands : (ok : ℕ → ℕ → Bool) (from : Canvas) (above below : List (List Cell)) (line : List Cell) → length above ≡ old.row
      → Stood ok old from (above ++ line ∷ below)
      → Stood ok new from (above ++ laid_at line old.col (blank_row (old.cols - old.col)) ∷ blank_rows (length below) old.cols)
  pub to_row : new.row ≡ old.row
  pub to_col : new.col ≡ old.col
  pub to_pen : new.pen ≡ old.pen
  pub same : IsSameScreen old new
  pub placed : IsPlaced new
  pub short : length (written new) ≤ length (written old) + 3
