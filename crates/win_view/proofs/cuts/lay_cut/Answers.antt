use Rattle.std.proofs.Common.{◌+◌, List, [], ◌∷◌, set, refl, sym, ap, inl, ◌∙◌, arith}
use Rattle.cell_grid.specs.declared.cell.Cell.{Cell}
use Rattle.cell_grid.specs.Grid.{row_at}
use Rattle.cell_grid.specs.Row.{laid_at}
use Rattle.win_view.specs.Views.{half_of, spaced_end}
use Rattle.win_view.proofs.ColumnCuts.{spaced_tail}
use Rattle.win_view.proofs.Laid.{set-behind}
use Rattle.win_view.proofs.cuts.lay_cut.Goals as goal

pub returns-then-is_tail-clause-laid : goal.returns-then-is_tail-clause-laid
returns-then-is_tail-clause-laid c =
    let cells = c.args.cells.now in
    let grid = c.args.grid.now in
    let row = c.args.row in
    let col = c.args.col in
    let half = half_of c.args.attrs in
    let rest = spaced_end c.split_at.result.1.now in
    c.lay_front.ensures.laid
    ∙ ap (λ (rows : List (List Cell)). set rows row (laid_at (row_at rows row) (col + 1) rest)) c.lay.ensures.laid
    ∙ ap (λ (cell : Cell). set (set grid row (laid_at (row_at grid row) col (cell ∷ []))) row (laid_at (row_at (set grid row (laid_at (row_at grid row) col (cell ∷ []))) row) (col + 1) rest)) c.half_of.ensures
    ∙ set-behind c.cols.result grid row col (col + 1) (half ∷ []) rest c.cols.ensures.every c.requires.row_within (inl (refl, tt))
    (omega (arith, c.requires.fits, c.cols.ensures.value)) refl
    ∙ ap (λ (back : List Cell). set grid row (laid_at (row_at grid row) col (half ∷ spaced_end back))) c.split_at.ensures.back
    ∙ ap (λ (all : List Cell). set grid row (laid_at (row_at grid row) col all)) (sym (spaced_tail cells c.index-cells-0.result c.args.attrs (omega arith) c.index-cells-0.is (c.if-is_tail.ensures.0 refl)))
