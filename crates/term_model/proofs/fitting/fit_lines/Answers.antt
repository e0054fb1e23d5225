use Rattle.std.proofs.Common.{◌≡◌, ℕ, sym, subst, ◌∙◌}
use Rattle.cell_grid.specs.Grid.{AllRows}
use Rattle.term_model.proofs.FitLemmas.{lines_same}
use Rattle.term_model.proofs.fitting.fit_lines.Goals as goal

pub returns-then-from-cols-clause-ok : goal.returns-then-from-cols-clause-ok
returns-then-from-cols-clause-ok c =
    let lines = c.args.lines.now.items in
    let wide : AllRows c.args.cols lines = subst (λ (n : ℕ). AllRows n lines) c.if-from-cols.true c.requires in
    c.in_ok-fit_count.ensures.ok ∙ lines_same c.args.count c.args.cols lines wide
