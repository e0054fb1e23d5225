-- What a contract sees of a text that is drawn: its characters, and what stands before, among and behind them.
use Rattle.std.specs.Prelude.{ℕ, ◌≤◌, List, length}
use Rattle.cell_grid.specs.declared.cell.Cell.{Cell}
use Rattle.text_rows.specs.declared.looks.Looks.{Looks}

-- the cells before the first line and before each other line, the text, the places from which and up to which it is selected, and what stands behind it
pub record TextFields : Type 0 where
  pub message : List Cell
  pub continuation : List Cell
  pub text : List ℕ
  pub selected_from : ℕ
  pub selected_to : ℕ
  pub suggestion : List ℕ
  pub looks : Looks

-- what is drawn of a document: so few cells that they can be counted
pub record IsDrawnText (t : TextFields) : Type 0 where
  pub short_message : length t.message ≤ 1000
  pub short_continuation : length t.continuation ≤ 1000
  pub short_text : length t.text ≤ 32768
  pub short_suggestion : length t.suggestion ≤ 32768
  pub ordered : t.selected_from ≤ t.selected_to
