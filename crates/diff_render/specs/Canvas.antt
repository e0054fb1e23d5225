-- What the bytes of a frame do to a terminal, told by its lines from the base line on. Whatever stands before the base line, and
-- wherever the window is, the same bytes lead from one canvas to the next.
use Rattle.std.specs.Prelude.{◌≡◌, ℕ, zero, suc, ◌+◌, ◌-◌, ◌<◌, ◌≤◌, Bool, true, false, ◌&&◌, List, [], ◌∷◌, ◌++◌}
use Rattle.std.specs.Prelude.{Option, length, take, max, nat_eq, nat_le}
use Rattle.std.specs.List.{list_all}
use Rattle.cell_grid.specs.declared.cell.Cell.{Cell}
use Rattle.cell_grid.specs.declared.attrs.Attrs.{Attrs}
use Rattle.cell_grid.specs.Grid.{blank_rows}
use Rattle.term_model.specs.Controls.{Control, Print, between, controls_from}
use Rattle.term_model.specs.Obeying.{act, acted, line_of, wrapped, width_of, chars_of}
use Rattle.term_model.specs.Term.{Term}
use Rattle.diff_render.specs.Pieces.{IsMade}

-- the lines from the base line on, as many as there are of a drawing, the cursor's row among them, its column, and the pen
pub record Canvas : Type 0 where
  pub lines : List (List Cell)
  pub row : ℕ
  pub col : ℕ
  pub pen : Attrs

-- a canvas, by its parts
abbrev pub canvas_of : List (List Cell) → ℕ → ℕ → Attrs → Canvas
canvas_of lines row col pen = record { lines = lines; row = row; col = col; pen = pen }

-- the top of a terminal whose window has moved down for this many lines from the base line on
abbrev pub top_for : Term → ℕ → ℕ → ℕ
top_for t base height = max t.top (base + height - t.rows)

-- the terminal that shows a canvas below the lines that another one has before the base line
abbrev pub canvas : Term → ℕ → Canvas → Bool → Option (ℕ × ℕ) → Term
canvas t base c pending last = record {
  rows = t.rows;
  cols = t.cols;
  lines = take base t.lines ++ c.lines ++ blank_rows (top_for t base (length c.lines) + t.rows - base - length c.lines) t.cols;
  top = top_for t base (length c.lines);
  row = base + c.row - top_for t base (length c.lines);
  col = c.col;
  pen = c.pen;
  wraps = false;
  visible = true;
  pasting = true;
  pending = pending;
  last = last;
}

-- a terminal shows a canvas
pub record On (t : Term) (base : ℕ) (c : Canvas) (x : Term) : Type 0 where
  pub pending : Bool
  pub last : Option (ℕ × ℕ)
  pub is : x ≡ canvas t base c pending last

-- a line in the window can be the base line
pub record IsBase (t : Term) (base rows cols : ℕ) : Type 0 where
  pub tall : t.rows ≡ rows
  pub wide : t.cols ≡ cols
  pub behind_top : t.top ≤ base
  pub in_window : base < t.top + t.rows
  pub before : length (take base t.lines) ≡ base

-- what some bytes read as
abbrev pub reads : List ℕ → List Control
reads bytes = controls_from between (chars_of bytes)

-- some bytes read as these controls, whatever comes behind them
abbrev pub Spells : List ℕ → List Control → Type 0
Spells bytes controls = (rest : List ℕ) → reads (bytes ++ rest) ≡ controls ++ reads rest

-- DEVICE STATUS REPORT (8.3.35), which asks for the cursor's place: `ESC [ 6 n`
abbrev pub question : List ℕ
question = 27 ∷ 91 ∷ 54 ∷ 110 ∷ []

-- the bytes begin with these
abbrev pub starts : List ℕ → List ℕ → Bool
starts [] bytes = true
starts (first ∷ others) [] = false
starts (first ∷ others) (byte ∷ bytes) = nat_eq first byte && starts others bytes

-- one more, where the question begins here
abbrev pub one_more : Bool → ℕ → ℕ
one_more true n = n + 1
one_more false n = n

-- how often the bytes hold the question
abbrev pub asked : List ℕ → ℕ
asked [] = 0
asked (byte ∷ bytes) = one_more (starts question (byte ∷ bytes)) (asked bytes)

-- the bytes add no question, whatever comes behind them
abbrev pub IsQuiet : List ℕ → Type 0
IsQuiet bytes = (rest : List ℕ) → asked (bytes ++ rest) ≡ asked rest

-- the place, by its row below the base line and its column, at which a character of this width is put, if there are columns enough
abbrev pub lead_place : Bool → Term → ℕ → List (ℕ × ℕ)
lead_place true t base = (line_of t - base, t.col) ∷ []
lead_place false t base = []

abbrev pub placed_at : Term → ℕ → ℕ → List (ℕ × ℕ)
placed_at t width base = lead_place (nat_le (t.col + width) t.cols) t base

-- the place at which a character of this width prints the lead of a cell: one of width 0 joins a cell
abbrev pub printed_at : ℕ → Term → ℕ → List (ℕ × ℕ)
printed_at zero t base = []
printed_at (suc zero) t base = placed_at (wrapped t) 1 base
printed_at (suc (suc zero)) t base = placed_at (wrapped t) 2 base
printed_at (suc (suc (suc more))) t base = placed_at (wrapped t) 1 base

-- the place at which a control prints the lead of a cell
abbrev pub touched_by : Term → ℕ → Control → List (ℕ × ℕ)
touched_by t base (Print c) = printed_at (width_of c) t base
touched_by t base control = []

-- the places at which controls print the lead of a cell
abbrev pub touched : Term → ℕ → List Control → List (ℕ × ℕ)
touched t base [] = []
touched t base (control ∷ controls) = touched_by t base control ++ touched (act t control) base controls

-- each place at which controls print the lead of a cell is one of those that pass
abbrev pub Touches : (ℕ → ℕ → Bool) → Term → ℕ → List Control → Type 0
Touches ok t base controls = list_all (λ (place : ℕ × ℕ). ok place.0 place.1) (touched t base controls) ≡ true

-- controls that turn one canvas into another
abbrev pub Does : ℕ → ℕ → List Control → Canvas → Canvas → Type 0
Does rows cols controls from to =
    (t : Term) (base : ℕ) → IsBase t base rows cols → (x : Term) → On t base from x → On t base to (acted x controls)

-- bytes of pieces that turn one canvas into another, and print no cell but at places that pass
pub record Draws (rows cols : ℕ) (ok : ℕ → ℕ → Bool) (bytes : List ℕ) (from to : Canvas) : Type 0 where
  pub controls : List Control
  pub spells : Spells bytes controls
  pub quiet : IsQuiet bytes
  pub made : IsMade bytes
  pub stands : Does rows cols controls from to
  pub touches : (t : Term) (base : ℕ) → IsBase t base rows cols → (x : Term) → On t base from x → Touches ok x base controls
