use Rattle.std.proofs.Common.{◌++◌, [], ◌∷◌, List, ◌∙◌, sym, ap}
use Rattle.cell_grid.specs.declared.cell.Cell.{Cell}
use Rattle.win_view.specs.Rows.{rows_of}
use Rattle.win_view.proofs.FirstRows.{pass_row, pass_last}
use Rattle.win_view.proofs.wraps.wrap.Goals as goal

pub loop-count-preserved : goal.loop-count-preserved
loop-count-preserved c =
    let width = c.args.width in
    let rest = c.loop-count.rest.now in
    let behind = c.split_at.result.1.now in
    let row = c.split_at.result.0.now in
    record {
      first = c.first_row-count-in-loop-count.ensures;
      rows = ap (λ (rows : List (List Cell)). rows ++ rows_of width behind) (c.in_ok-push.ensures.ok ∙ ap (λ (held : List Cell). c.loop-count.rows ++ held ∷ []) c.in_ok-held_row.ensures)
          ∙ pass_row width c.loop-count.count rest row behind c.loop-count.rows c.requires c.loop-count.invariant.first c.loop-count-test.true c.split_at.ensures.front c.split_at.ensures.back
          ∙ c.loop-count.invariant.rows;
    }

pub returns : goal.returns
returns c =
    c.in_ok-push-2.ensures.ok
    ∙ ap (λ (held : List Cell). c.loop-count.rows ++ held ∷ []) c.in_ok-held_row-2.ensures
    ∙ ap (λ (rows : List (List Cell)). c.loop-count.rows ++ rows)
    (sym (pass_last c.args.width c.loop-count.count c.loop-count.rest.now c.requires c.loop-count.invariant.first c.loop-count-test.false))
    ∙ c.loop-count.invariant.rows
