use Rattle.win_view.proofs.ScrollLaws.{scrolled_shows}
use Rattle.win_view.proofs.laws.scroll_shows_the_cursor.Goals as goal

pub returns-clause-not_above : goal.returns-clause-not_above
returns-clause-not_above c = λ old offset cursor window content within some. (scrolled_shows old offset cursor window content within some).from

pub returns-clause-not_below : goal.returns-clause-not_below
returns-clause-not_below c = λ old offset cursor window content within some. (scrolled_shows old offset cursor window content within some).below
