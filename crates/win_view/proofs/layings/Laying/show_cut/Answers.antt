use Rattle.std.proofs.Common.{◌≡◌, ℕ, ◌+◌, List, length, set, drop, refl, ap, ◌∙◌, arith}
use Rattle.cell_grid.specs.declared.cell.Cell.{Cell}
use Rattle.cell_grid.specs.Grid.{row_at}
use Rattle.cell_grid.specs.Row.{laid_at}
use Rattle.win_view.specs.Showing.{with_row}
use Rattle.win_view.specs.Views.{columns_from}
use Rattle.win_view.proofs.ColumnCuts.{length-columns_from, whole-columns_from}
use Rattle.win_view.proofs.Laid.{set-behind}
use Rattle.win_view.proofs.layings.Laying.show_cut.Goals as goal

pub end_row-requires-clause-fits : goal.end_row-requires-clause-fits
end_row-requires-clause-fits c =
    omega (arith, c.lay_columns-count.ensures.count, length-columns_from c.args.across c.len.result c.args.line.now, c.len.ensures, c.args.self.now.spaces.ok.0)

pub returns-clause-laid : goal.returns-clause-laid
returns-clause-laid c =
    let self = c.args.self.now in
    let grid = c.args.grid.now in
    let across = c.args.across in
    let line = c.args.line.now in
    let cut = columns_from across c.len.result line in
    let place = self.col + length cut in
    let spaces = self.spaces.items in
    let new = c.lay_columns-count.new.grid in
    let wide : c.len.result ≡ length spaces = omega (arith, c.len.ensures, self.spaces.ok.0) in
    c.end_row.ensures.laid
    ∙ ap (λ (n : ℕ). set new self.row (laid_at (row_at new self.row) (self.col + n) (drop n spaces))) c.lay_columns-count.ensures.count
    ∙ ap (λ (rows : List (List Cell)). set rows self.row (laid_at (row_at rows self.row) place (drop (length cut) spaces))) c.lay_columns-count.ensures.laid
    ∙ set-behind c.cols.result grid self.row self.col place cut (drop (length cut) spaces) c.cols.ensures.every (omega (arith, c.requires.room.below, c.requires.inside)) (whole-columns_from across c.len.result line c.requires.whole)
    (omega (arith, c.requires.room.right, c.cols.ensures.value, wide, length-columns_from across c.len.result line)) refl
    ∙ ap (λ (n : ℕ). with_row self grid (columns_from across n line)) wide
