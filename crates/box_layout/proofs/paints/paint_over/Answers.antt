use Rattle.std.proofs.Common.{◌≡◌, ◌-◌, ◌≤◌, List, length, subst, ap, ◌∙◌, arith}
use Rattle.cell_grid.specs.declared.cell.Cell.{Cell}
use Rattle.cell_grid.specs.Grid.{AllRows, blitted}
use Rattle.win_view.specs.Views.{window_rows_with}
use Rattle.win_view.proofs.WindowLaws.{length-window_rows_with}
use Rattle.box_layout.specs.Painting.{area_rows, view_of}
use Rattle.box_layout.specs.Panes.{PaneFields}
use Rattle.box_layout.specs.Placed.{PlacedFields}
use Rattle.box_layout.proofs.PaintedRows.{painted-more}
use Rattle.box_layout.proofs.paints.paint_over.Goals as goal

pub returns-clause-paints : goal.returns-clause-paints
returns-clause-paints c = λ before shows.
    let placed = c.args.placed.now in
    let area = c.args.area.now in
    let inside = c.placed.inside in
    let part = window_rows_with c.pane.inside.attrs c.pane.inside.content inside.size inside.scroll in
    let is : part ≡ (view_of placed).grid =
    ap (λ (pane : PaneFields). window_rows_with pane.attrs pane.content inside.size inside.scroll) c.pane.view_is
    ∙ ap (λ (p : PlacedFields). (view_of p).grid) c.placed.view_is
    in
    let every : AllRows placed.size.cols part = subst (λ (p : PlacedFields). AllRows p.size.cols part) c.placed.view_is c.in_ok-show.ensures.every in
    let high : length part ≡ placed.size.rows = length-window_rows_with c.pane.inside.attrs c.pane.inside.content inside.size inside.scroll ∙ ap (λ (p : PlacedFields). p.size.rows) c.placed.view_is in
    let some : 1 ≤ placed.size.cols = omega (arith, c.if-prove.false, c.cols.ensures.value, ap (λ (p : PlacedFields). p.size.cols) c.placed.view_is) in
    c.in_ok-show.ensures.shows
    ∙ ap (λ (rows : List (List Cell)). blitted rows part (inside.row - area.row) (inside.col - area.col)) shows
    ∙ ap (λ (p : PlacedFields). blitted (area_rows before area) part (p.row - area.row) (p.col - area.col)) c.placed.view_is
    ∙ painted-more before placed area part c.requires.inside is every high some
