use Rattle.win_view.proofs.WindowLaws.{AllRows-window_rows, length-window_rows}
use Rattle.win_view.proofs.laws.a_view_fills_the_window.Goals as goal

pub returns-clause-rows : goal.returns-clause-rows
returns-clause-rows c = length-window_rows

pub returns-clause-cols : goal.returns-clause-cols
returns-clause-cols c = AllRows-window_rows
