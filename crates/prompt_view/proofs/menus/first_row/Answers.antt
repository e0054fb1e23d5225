use Rattle.std.proofs.Common.{sym, subst}
use Rattle.cell_grid.specs.Row.{IsWhole}
use Rattle.prompt_view.proofs.MenuRows.{first_fits}
use Rattle.prompt_view.proofs.menus.first_row.Goals as goal

pub returns-in-Some-clause-fits : goal.returns-in-Some-clause-fits
returns-in-Some-clause-fits c =
    first_fits c.args.width c.args.cells.now c.in-Some.row.now c.in_ok-row-in-Some.row c.in_ok-rows.rows c.requires
    (subst IsWhole c.as_slice.ensures.value c.as_slice.ensures.whole) c.in_ok-rows.ensures (sym c.in-Some.ensures.item) c.in_ok-row-in-Some.ensures
