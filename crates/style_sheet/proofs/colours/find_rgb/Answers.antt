use Rattle.std.proofs.Common.{arith}
use Rattle.style_sheet.specs.Spelling.{hex_pair}
use Rattle.style_sheet.proofs.ColourNames.{six_digits}
use Rattle.style_sheet.proofs.colours.find_rgb.Goals as goal

pub returns-clause-found : goal.returns-clause-found
returns-clause-found c = (
  (omega arith, omega arith, omega arith),
  six_digits c.args.name.now (hex_pair c.in_ok-red.red) (hex_pair c.in_ok-green.green) (hex_pair c.in_ok-blue.blue) 35 (omega arith) (omega arith) c.in_ok-red.ensures.found c.in_ok-green.ensures.found c.in_ok-blue.ensures.found,
)
