use Rattle.win_view.proofs.CursorLaws.{col_shown, row_shown}
use Rattle.win_view.proofs.laws.a_settled_view_shows_the_cursor.Goals as goal

pub returns-clause-row : goal.returns-clause-row
returns-clause-row c = row_shown

pub returns-clause-col : goal.returns-clause-col
returns-clause-col c = col_shown
