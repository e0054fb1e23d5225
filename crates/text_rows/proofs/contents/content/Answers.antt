use Rattle.text_rows.proofs.PlacesWithin.{is_content}
use Rattle.text_rows.proofs.contents.content.Goals as goal

pub returns-clause-is : goal.returns-clause-is
returns-clause-is c =
    is_content c.args.drawn.now c.args.at _ c.requires.drawn c.in_ok-lines.ensures c.in_ok-place.ensures.line c.in_ok-place.ensures.cell
