use Rattle.std.proofs.Common.{◌≡◌, false, length, refl, arith}
use Rattle.prompt_view.specs.Floats.{item_row}
use Rattle.prompt_view.proofs.MenuRows.{counted, menu_content}
use Rattle.prompt_view.proofs.menus.menu_pane.Goals as goal

pub invariant_of-result : goal.invariant_of-result
invariant_of-result c =
    let lines = c.in_ok-lines.lines in
    let count : length lines ≡ c.args.rows = counted (item_row c.args.scene.now) lines c.first_item.result c.args.rows c.in_ok-lines.ensures.rows in
    menu_content (record { lines = lines; line = 0; cell = 0; wrap = false }) c.in_ok-cols.cols c.in_ok-cols.ensures.some c.in_ok-cols.ensures.few
    (omega (arith, count, c.requires.some)) (omega (arith, count, c.requires.few)) c.in_ok-lines.ensures.long refl refl
