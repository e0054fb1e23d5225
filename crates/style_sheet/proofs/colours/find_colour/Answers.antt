use Rattle.style_sheet.proofs.ColourNames.{unnamed}
use Rattle.style_sheet.proofs.colours.find_colour.Goals as goal

pub returns-in_err-number-clause-none : goal.returns-in_err-number-clause-none
returns-in_err-number-clause-none c = rw c.from_residual.ensures (unnamed c.args.name.now c.in_err-number.ensures.none c.in_default.ensures.none)
