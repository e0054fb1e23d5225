use Rattle.std.proofs.Common.{◌≡◌, ◌+◌, List, length, set, drop, refl, sym, ap, ◌∙◌, arith}
use Rattle.cell_grid.specs.declared.cell.Cell.{Cell}
use Rattle.cell_grid.specs.Grid.{row_at}
use Rattle.cell_grid.specs.Row.{laid_at}
use Rattle.win_view.specs.Showing.{with_row}
use Rattle.win_view.proofs.Laid.{set-behind}
use Rattle.win_view.proofs.LaidRows.{passed-inside}
use Rattle.win_view.proofs.layings.Laying.show_row.Goals as goal

pub returns-clause-passed : goal.returns-clause-passed
returns-clause-passed c =
    let self = c.args.self.now in
    let grid = c.args.grid.now in
    let cells = c.args.cells.now in
    let place = self.col + length cells in
    let behind = drop (length cells) self.spaces.items in
    let laid : c.end_row.new.grid ≡ with_row self grid cells =
    c.end_row.ensures.laid
    ∙ ap (λ (rows : List (List Cell)). set rows self.row (laid_at (row_at rows self.row) place behind)) c.lay.ensures.laid
    ∙ set-behind c.cols.result grid self.row self.col place cells behind c.cols.ensures.every (omega (arith, c.requires.room.below)) c.requires.whole
    (omega (arith, c.requires.room.right, c.requires.fits, c.cols.ensures.value)) refl
    in
    (λ i. (c.end_row.ensures.laying i, laid i)) ∙ sym (passed-inside self grid cells (omega arith) (omega arith))
