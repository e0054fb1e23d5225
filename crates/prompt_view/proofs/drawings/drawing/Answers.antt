use Rattle.std.proofs.Common.{◌≡◌, ◌≤◌, ap, subst, sym, rules, arith}
use Rattle.cell_grid.specs.declared.drawing.Drawing.{Drawing}
use Rattle.cell_grid.specs.Drawable.{AllRowsDrawable}
use Rattle.win_view.specs.Contents.{IsContent}
use Rattle.prompt_view.specs.Drawing.{HasCursorInside, IsOnScreen}
use Rattle.prompt_view.specs.Lines.{content_of}
use Rattle.prompt_view.specs.Scene.{SceneFields}
use Rattle.prompt_view.proofs.Cursors.{cursor_inside, drawing_on_screen}
use Rattle.prompt_view.proofs.DrawableScenes.{drawing_drawable}
use Rattle.prompt_view.proofs.WholeLines.{whole_lines}
use Rattle.prompt_view.proofs.drawings.drawing.Goals as goal

pub returns-clause-screen : goal.returns-clause-screen
returns-clause-screen c =
    let s = c.args.scene.now in
    let rows : 1 ≤ s.size.rows = omega (arith, ap (λ (t : SceneFields). t.size.rows) c.scene.view_is, c.rows.ensures.value, c.rows.ensures.some) in
    subst (IsOnScreen s.size) (sym c.in_ok-drawing.ensures) (drawing_on_screen s rows)

pub returns-clause-cells : goal.returns-clause-cells
returns-clause-cells c = λ pens.
    subst (λ (drawing : Drawing). AllRowsDrawable drawing.grid) (sym c.in_ok-drawing.ensures) (drawing_drawable c.args.scene.now pens)

pub returns-clause-cursor : goal.returns-clause-cursor
returns-clause-cursor c = λ settled.
    let s = c.args.scene.now in
    let rows : 1 ≤ s.size.rows = omega (arith, ap (λ (t : SceneFields). t.size.rows) c.scene.view_is, c.rows.ensures.value, c.rows.ensures.some) in
    let cols : 1 ≤ s.size.cols = omega (arith, ap (λ (t : SceneFields). t.size.cols) c.scene.view_is, c.cols.ensures.value, c.cols.ensures.some) in
    let shown : c.in_ok-content.content ≡ content_of s = search rules in
    subst HasCursorInside (sym c.in_ok-drawing.ensures)
    (cursor_inside s (subst IsContent shown c.in_ok-content.ensures.is) (whole_lines s) rows cols settled)
