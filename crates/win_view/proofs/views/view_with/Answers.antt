use Rattle.std.proofs.Common.{◌≡◌, List, ap, ◌∙◌}
use Rattle.cell_grid.specs.declared.cell.Cell.{Cell}
use Rattle.cell_grid.specs.Grid.{blank_rows, blitted}
use Rattle.win_view.specs.Views.{window_rows_with}
use Rattle.win_view.proofs.Blits.{blitted-blanks}
use Rattle.win_view.proofs.WindowLaws.{length-window_rows_with}
use Rattle.win_view.proofs.views.view_with.Goals as goal

pub returns-clause-view : goal.returns-clause-view
returns-clause-view c =
    let size = c.args.size in
    let window = window_rows_with c.args.behind c.args.content.now size c.args.scroll in
    let blank : c.in_ok-grid.grid ≡ blank_rows size.rows size.cols = rw (c.rows.ensures.value, c.cols.ensures.value) at c.in_ok-grid.ensures in
    let grid : c.show.new.grid ≡ window =
    c.in_ok-show.ensures.shows ∙ ap (λ (rows : List (List Cell)). blitted rows window 0 0) blank
    ∙ blitted-blanks size.rows size.cols window c.in_ok-show.ensures.every (length-window_rows_with c.args.behind c.args.content.now size c.args.scroll)
    in
    λ i. record { grid = grid i; row = c.seen_cursor-row.ensures.row i; col = c.seen_cursor-row.ensures.col i }
