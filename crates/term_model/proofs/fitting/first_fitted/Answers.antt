use Rattle.std.proofs.Common.{◌<◌, [], length, arith, sym, subst}
use Rattle.std.proofs.lemmas.List.{get_or_read}
use Rattle.cell_grid.specs.Row.{IsWhole}
use Rattle.cell_grid.proofs.GridLemmas.{AllRows-at}
use Rattle.term_model.proofs.fitting.first_fitted.Goals as goal

pub fitted_row-requires : goal.fitted_row-requires
fitted_row-requires c =
    let lines = c.args.lines.now in
    let line = c.loop-line.line in
    let within : line < length lines.items = omega (arith, lines.ok.0, c.requires.within) in
    let is = get_or_read lines.items line c.index.result.now within c.index.ensures [] in
    subst IsWhole (sym is) (AllRows-at c.requires.wide.0 lines.items line c.requires.wide.1 within).whole
