-- What bytes do that make one drawing on the screen another one.
use Rattle.std.specs.Prelude.{◌≡◌, ℕ, ◌+◌, ◌-◌, ◌*◌, ◌≤◌, Bool, List, [], ◌∷◌, ◌++◌, length, max}
use Rattle.cell_grid.specs.declared.cell.Cell.{Cell}
use Rattle.cell_grid.specs.declared.drawing.Drawing.{Drawing}
use Rattle.cell_grid.specs.Attrs.{plain}
use Rattle.cell_grid.specs.Row.{blank_row}
use Rattle.cell_grid.specs.Size.{Extent}
use Rattle.term_model.specs.Term.{Term}
use Rattle.term_model.specs.Obeying.{acted}
use Rattle.diff_render.specs.Canvas.{canvas_of, IsBase, On, reads, Spells, IsQuiet, Touches}
use Rattle.diff_render.specs.Changes.{changed_rows}
use Rattle.diff_render.specs.Frames.{put, Agree}
use Rattle.diff_render.specs.Opening.{opening_of}
use Rattle.diff_render.specs.Pieces.{IsMade}
use Rattle.diff_render.specs.Redrawn.{MayTouchRows}
use Rattle.diff_render.specs.Writer.{written, Moves}
use Rattle.diff_render.specs.declared.writer.Writer.{Writer}

-- CR, LF, autowrap on, bracketed paste off
abbrev pub closing : List ℕ
closing = 13 ∷ 10 ∷ 27 ∷ 91 ∷ 63 ∷ 55 ∷ 104 ∷ 27 ∷ 91 ∷ 63 ∷ 50 ∷ 48 ∷ 48 ∷ 52 ∷ 108 ∷ []

-- a writer goes to the last row of a drawing of so many, and then the prompt is closed
pub record Closes (w v : Writer) (rows : ℕ) : Type 0 where
  pub middle : Writer
  pub moves : Moves w middle (rows - 1) w.col plain (rows - 1 - w.row + 9)
  pub wrote : written v ≡ written middle ++ closing

-- bytes that make the rows from the base line on, with the cursor at a place and a plain pen, a drawing, finished or not
pub record Turns (rows cols : ℕ) (old : List (List Cell)) (row col : ℕ) (drawing : Drawing) (done : Bool) (bytes : List ℕ) : Type 0 where
  pub reading : Spells bytes (reads bytes)
  pub quiet : IsQuiet bytes
  pub made : IsMade bytes
  pub shows : (t : Term) (base : ℕ) → IsBase t base rows cols → base + length old ≤ t.top + t.rows → (x : Term) → On t base (canvas_of old row col plain) x
      → Agree (acted x (reads bytes)) (put t base drawing done)
  pub touches : (ok : ℕ → ℕ → Bool) → MayTouchRows ok old drawing.grid → (t : Term) (base : ℕ) → IsBase t base rows cols → (x : Term)
      → On t base (canvas_of old row col plain) x → Touches ok x base (reads bytes)
  pub short : length bytes ≤ 9 * max (length old) (length drawing.grid) + 33 + 128 * changed_rows cols old drawing.grid

-- bytes that begin a drawing anew where the cursor is so many rows below the base line
pub record BeginsAnew (size : Extent) (up : ℕ) (drawing : Drawing) (done asks : Bool) (bytes : List ℕ) : Type 0 where
  pub rest : List ℕ
  pub turns : Turns size.rows size.cols (blank_row size.cols ∷ []) 0 0 drawing done rest
  pub wrote : bytes ≡ opening_of up asks ++ rest
