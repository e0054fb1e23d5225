use Rattle.win_view.proofs.LaidRows.{part_shown}
use Rattle.win_view.proofs.shows.show_wrapped.Goals as goal

pub returns-clause-shows : goal.returns-clause-shows
returns-clause-shows c =
    part_shown (record c.args.laying { above = c.args.down }) c.show_lines.new.self c.args.grid.now c.show_lines.new.grid c.show_spaces.new.grid _ c.requires.within c.requires.below c.show_lines.ensures.passed c.show_spaces.ensures.laid
