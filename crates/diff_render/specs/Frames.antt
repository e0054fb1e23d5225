-- What a frame does: the terminal that obeyed it shows the new drawing, whatever it had before the base line.
use Rattle.std.specs.Prelude.{◌≡◌, ℕ, ◌+◌, ◌-◌, ◌*◌, ◌<◌, ◌≤◌, Bool, true, false, not, ◌&&◌, List, [], ◌++◌, Option}
use Rattle.std.specs.Prelude.{Some, None, length, take, max}
use Rattle.cell_grid.specs.declared.cell.Cell.{Cell}
use Rattle.cell_grid.specs.declared.drawing.Drawing.{Drawing}
use Rattle.cell_grid.specs.Attrs.{plain}
use Rattle.cell_grid.specs.Grid.{blank_rows, columns}
use Rattle.cell_grid.specs.Size.{Extent}
use Rattle.term_model.specs.Term.{Term, IsTerminal}
use Rattle.term_model.specs.Obeying.{forgotten, line_of, obeyed_bytes}
use Rattle.diff_render.specs.Canvas.{top_for, reads, Spells, question, asked, Touches}
use Rattle.diff_render.specs.Changes.{is_changed, changed_rows}
use Rattle.diff_render.specs.Pieces.{IsMade}
use Rattle.diff_render.specs.declared.shown.OnScreen.{OnScreen}
use Rattle.diff_render.specs.declared.shown.OnScreen.TheVariants.{Nothing, Drawn, Resized}

-- ---- what a terminal shows

-- the terminal with these rows from the base line on, blank lines behind them and its cursor on a line of this number
abbrev pub put_rows : Term → ℕ → List (List Cell) → ℕ → ℕ → ℕ → Bool → Term
put_rows t base rows top line col finished = record {
  rows = t.rows;
  cols = t.cols;
  lines = take base t.lines ++ rows ++ blank_rows (top + t.rows - base - length rows) t.cols;
  top = top;
  row = line - top;
  col = col;
  pen = plain;
  wraps = finished;
  visible = true;
  pasting = not finished;
  pending = false;
  last = None;
}

-- the terminal that shows a drawing from the base line on, while a prompt is on the screen or, finished, with the cursor behind it
abbrev pub put : Term → ℕ → Drawing → Bool → Term
put t base drawing false = put_rows t base drawing.grid (top_for t base (length drawing.grid)) (base + drawing.row) drawing.col false
put t base drawing true = put_rows t base drawing.grid (top_for t base (length drawing.grid + 1)) (base + length drawing.grid) 0 true

-- two terminals are equal but for a pending wrap and the place printed last
abbrev pub Agree : Term → Term → Type 0
Agree s t = forgotten s ≡ forgotten t

-- ---- what is on the screen before a frame

-- the base line that a frame is made for: the cursor's line where nothing is shown, and the line where the cursor's row of the
-- drawing shown leads up to where its size was forgotten
abbrev pub IsBaseOf : OnScreen → Term → ℕ → Type 0
IsBaseOf Nothing t base = base ≡ line_of t
IsBaseOf (Drawn drawing size) t base = (t.top ≤ base) × Agree t (put t base drawing false)
IsBaseOf (Resized row) t base = base ≡ max t.top (line_of t - row)

-- the rows that a frame begins with: none where nothing is shown and where the size was forgotten
abbrev pub rows_before : OnScreen → List (List Cell)
rows_before Nothing = []
rows_before (Drawn drawing size) = drawing.grid
rows_before (Resized row) = []

-- the greater of the heights before and after a frame
abbrev pub height_of : OnScreen → Drawing → ℕ
height_of screen drawing = max (length (rows_before screen)) (length drawing.grid)

-- how many places a frame changes
abbrev pub changed_places : Extent → OnScreen → Drawing → ℕ
changed_places size screen drawing = changed_rows size.cols (rows_before screen) drawing.grid

-- what is on the screen was drawn at this size, or its size was forgotten
abbrev pub WasDrawnAt : Extent → OnScreen → Type 0
WasDrawnAt size Nothing = Unit {0}
WasDrawnAt size (Drawn drawing drawn_at) = drawn_at ≡ size
WasDrawnAt size (Resized row) = Unit {0}

-- ---- which drawings can be shown

-- the drawing is as wide as the screen and no higher
pub record FitsScreen (size : Extent) (drawing : Drawing) : Type 0 where
  pub wide : columns drawing.grid ≡ size.cols
  pub high : length drawing.grid ≤ size.rows

-- the cursor is in the drawing
pub record HasCursor (drawing : Drawing) : Type 0 where
  pub in_rows : drawing.row < length drawing.grid
  pub in_cols : drawing.col < columns drawing.grid

-- ---- what a frame does

-- a terminal of this size can have a base line of this number before the frame
pub record Begins (size : Extent) (screen : OnScreen) (t : Term) (base : ℕ) : Type 0 where
  pub terminal : IsTerminal t
  pub tall : t.rows ≡ size.rows
  pub wide : t.cols ≡ size.cols
  pub base_line : IsBaseOf screen t base

-- each terminal that obeys the frame shows the drawing
abbrev pub Shows : Extent → OnScreen → Drawing → Bool → List ℕ → Type 0
Shows size screen drawing done frame =
    (t : Term) (base : ℕ) → Begins size screen t base → Agree (obeyed_bytes t frame) (put t base drawing done)

-- each place at which a terminal that obeys the frame prints the lead of a cell is a place that changes
abbrev pub TouchesChanges : Extent → OnScreen → Drawing → List ℕ → Type 0
TouchesChanges size screen drawing frame =
    (t : Term) (base : ℕ) → Begins size screen t base → Touches (is_changed (rows_before screen) drawing.grid) t base (reads frame)

-- the frame holds the question once, and a terminal that obeyed what is before it has its cursor on the base line
pub record AsksOnce (size : Extent) (screen : OnScreen) (frame : List ℕ) : Type 0 where
  pub before : List ℕ
  pub behind : List ℕ
  pub cut : frame ≡ before ++ question ++ behind
  pub none_before : asked before ≡ 0
  pub none_behind : asked behind ≡ 0
  pub on_base : (t : Term) (base : ℕ) → Begins size screen t base → line_of (obeyed_bytes t before) ≡ base

-- whether a frame asks: one that is made so, is not finished, and begins with nothing shown or with a forgotten size
abbrev pub has_to_ask : OnScreen → Bool → Bool → Bool
has_to_ask Nothing done ask = ask && not done
has_to_ask (Drawn drawing size) done ask = false
has_to_ask (Resized row) done ask = ask && not done

-- the frame asks where it has to, and else does not hold the question
abbrev pub AsksWhere : Bool → Extent → OnScreen → List ℕ → Type 0
AsksWhere true size screen frame = AsksOnce size screen frame
AsksWhere false size screen frame = asked frame ≡ 0

-- ---- what is on the screen after a frame

abbrev pub screen_after : Bool → Drawing → Extent → OnScreen
screen_after true drawing size = Nothing
screen_after false drawing size = Drawn drawing size

-- the base line of the drawing that comes behind one: the same one, or behind the last drawing of a prompt the line below it
abbrev pub base_after : Bool → Drawing → ℕ → ℕ
base_after true drawing base = base + length drawing.grid
base_after false drawing base = base

-- the row of the cursor that is shown
abbrev pub shown_row : OnScreen → Option ℕ
shown_row Nothing = None
shown_row (Drawn drawing size) = Some drawing.row
shown_row (Resized row) = Some row

-- the screen whose size was forgotten: the row of its cursor is kept
abbrev pub forgetting : OnScreen → OnScreen
forgetting Nothing = Nothing
forgetting (Drawn drawing size) = Resized drawing.row
forgetting (Resized row) = Resized row

-- the drawing is the one on the screen
abbrev pub IsOnScreen : OnScreen → Drawing → Type 0
IsOnScreen Nothing drawing = ⊥
IsOnScreen (Drawn old size) drawing = old ≡ drawing
IsOnScreen (Resized row) drawing = ⊥

-- ---- all of it

-- what a frame is: it shows the drawing, prints only where places change, is short, asks exactly where it has to, is empty where the
-- drawing is on the screen already and the prompt goes on, is made of characters of cells and of a few control functions and nothing
-- else, and reads as the same whatever comes behind it
pub record IsFrame (size : Extent) (screen : OnScreen) (drawing : Drawing) (done ask : Bool) (frame : List ℕ) : Type 0 where
  pub shows : Shows size screen drawing done frame
  pub touches : TouchesChanges size screen drawing frame
  pub short : length frame ≤ 100 + 128 * changed_places size screen drawing + 16 * height_of screen drawing
  pub asks : AsksWhere (has_to_ask screen done ask) size screen frame
  pub unchanged : IsOnScreen screen drawing → done ≡ false → frame ≡ []
  pub made : IsMade frame
  pub ends : Spells frame (reads frame)
