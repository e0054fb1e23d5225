use Rattle.std.proofs.Common.{◌≡◌, ◌∙◌, List, length, min, take, set, sym, subst, ap, arith}
use Rattle.cell_grid.specs.declared.cell.Cell.{Cell}
use Rattle.cell_grid.specs.Grid.{row_at}
use Rattle.cell_grid.specs.Row.{IsWhole, laid_at}
use Rattle.win_view.specs.Views.{columns_from, spaced_end, spaced_start}
use Rattle.win_view.proofs.ColumnCuts.{columns_from-cut, length-spaced, whole-columns_from}
use Rattle.win_view.proofs.cuts.lay_columns.Goals as goal
use Rattle.win_view.proofs.cuts.lay_columns.Goals.{After-lay_cut-arg-1}

-- the cells that are laid are the columns
cut : (c : After-lay_cut-arg-1) → spaced_end (spaced_start c.attrs_before.result c.split_at-2.result.0.now) ≡ columns_from c.args.across c.args.width c.args.line.now
cut c =
    let line = c.args.line.now in
    let start = c.min-start.result in
    columns_from-cut c.args.across c.args.width start c.min.result c.attrs_before.result line c.split_at-2.result.0.now c.requires.whole c.min-start.ensures c.attrs_before.ensures
    (c.min.ensures ∙ ap (λ (cells : List Cell). min c.args.width (length cells)) c.split_at.ensures.back)
    (c.split_at-2.ensures.front ∙ ap (take c.min.result) c.split_at.ensures.back)

pub lay_cut-requires-clause-whole : goal.lay_cut-requires-clause-whole
lay_cut-requires-clause-whole c = subst IsWhole (sym (cut c)) (whole-columns_from c.args.across c.args.width c.args.line.now c.requires.whole)

pub returns-clause-count : goal.returns-clause-count
returns-clause-count c =
    omega (arith, length-spaced c.attrs_before.result c.split_at-2.result.0.now, ap length (cut c.before))

pub returns-clause-laid : goal.returns-clause-laid
returns-clause-laid c =
    c.lay_cut.ensures.laid ∙ ap (λ (cells : List Cell). set c.args.grid.now c.args.row (laid_at (row_at c.args.grid.now c.args.row) c.args.col cells)) (cut c.before)
