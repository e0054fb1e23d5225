-- What a contract sees of the rows of a text that are kept from key to key: what they are the rows of, and nothing of how they are kept.
use Rattle.std.specs.Prelude.{◌≡◌, ℕ, ◌≤◌, List}
use Rattle.cell_grid.specs.declared.cell.Cell.{Cell}
use Rattle.text_rows.specs.DrawnText.{TextFields}

-- the cells before the first line and before each other line, the text, and the columns of a row
pub record RowsFields : Type 0 where
  pub message : List Cell
  pub continuation : List Cell
  pub text : List ℕ
  pub width : ℕ

-- what is drawn of the text, where this is suggested behind it, whatever is selected
pub record IsDrawnFrom (r : RowsFields) (suggestion : List ℕ) (t : TextFields) : Type 0 where
  pub message : t.message ≡ r.message
  pub continuation : t.continuation ≡ r.continuation
  pub text : t.text ≡ r.text
  pub suggestion_is : t.suggestion ≡ suggestion
  pub ordered : t.selected_from ≤ t.selected_to
