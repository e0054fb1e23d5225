use Rattle.win_view.proofs.LaidRows.{part_shown}
use Rattle.win_view.proofs.shows.show_cut.Goals as goal

pub returns-clause-shows : goal.returns-clause-shows
returns-clause-shows c =
    part_shown (record c.args.laying { above = 0 }) c.show_columns.new.self c.args.grid.now c.show_columns.new.grid c.show_spaces.new.grid _ c.requires.within c.requires.below c.show_columns.ensures.passed c.show_spaces.ensures.laid
