use Rattle.std.proofs.Common.{◌≡◌, ◌++◌, [], ◌∷◌, ap, ◌∙◌, arith}
use Rattle.cell_grid.specs.declared.cell.Cell.{Cell}
use Rattle.cell_grid.specs.Cell.{narrow, spread}
use Rattle.win_view.specs.Views.{filled_with}
use Rattle.prompt_view.proofs.MenuRows.{fill_more}
use Rattle.prompt_view.proofs.menus.fill.Goals as goal

pub loop-attrs-preserved : goal.loop-attrs-preserved
loop-attrs-preserved c =
    let row = c.loop-attrs.row in
    let pushed : c.push.new.self ≡ row ++ narrow 32 c.args.attrs ∷ [] =
    c.in_ok-push.ensures.ok ∙ ap (λ (cell : Cell). row ++ spread cell) c.narrow.ensures in
    ap (filled_with c.args.attrs c.args.width) pushed
    ∙ fill_more c.args.attrs c.args.width row (omega (arith, c.len.ensures, c.loop-attrs-test.true))
    ∙ c.loop-attrs.invariant
