use Rattle.std.proofs.Common.{◌≡◌, ℕ, false, arith, rules}
use Rattle.std.specs.Option.{is_none}
use Rattle.std.proofs.lemmas.Bool.Decides.{nat_tests}
use Rattle.unicode_width.specs.Width.{char_width}
use Rattle.cell_grid.specs.TextCells.{is_control}
use Rattle.cell_grid.proofs.text_cells.is_control.Goals as goal

-- the width is looked up in every other character
no_width : (char : ℕ) → is_control char ≡ is_none (char_width false char)
unfolding char_width
no_width char = grind (arith, nat_tests)

pub returns-then-c-lt32-clause-no_width : goal.returns-then-c-lt32-clause-no_width
returns-then-c-lt32-clause-no_width c = rw (← no_width c.args.c) (search rules)

pub returns-then-c-ge127-clause-no_width : goal.returns-then-c-ge127-clause-no_width
returns-then-c-ge127-clause-no_width c = rw (← no_width c.args.c) (search rules)

pub returns-else-c-ge127-clause-no_width : goal.returns-else-c-ge127-clause-no_width
returns-else-c-ge127-clause-no_width c = rw (← no_width c.args.c) (search rules)
