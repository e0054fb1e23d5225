use Rattle.std.proofs.Common.{◌-◌, ◌++◌, List, length, ap, ◌∙◌}
use Rattle.cell_grid.specs.declared.cell.Cell.{Cell}
use Rattle.cell_grid.specs.Row.{blank_row}
use Rattle.term_model.proofs.FitLemmas.{cut_and_padded}
use Rattle.term_model.proofs.fitting.fitted_row.Goals as goal

pub returns : goal.returns
returns c =
    c.in_ok-pad_row.ensures
    ∙ ap (λ (cells : List Cell). cells ++ blank_row (c.args.cols - length cells)) c.in_ok-fitted.ensures
    ∙ cut_and_padded c.args.row.now c.args.cols
