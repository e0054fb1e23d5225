use Rattle.std.proofs.Common.{◌-◌, arith, sym, ap, ◌∙◌, subst, refl, inl, inr}
use Rattle.cell_grid.specs.Drawable.{AllDrawable}
use Rattle.diff_render.specs.Changes.{cell_at}
use Rattle.diff_render.specs.Redrawn.{line_at}
use Rattle.diff_render.proofs.LineSteps.{blank_cell, line_drawable}
use Rattle.diff_render.proofs.LineEnds.{blank_here, rows_erased}
use Rattle.diff_render.proofs.lines.erase_rest.Goals as goal

pub erase_from-requires-clause-cells : goal.erase_from-requires-clause-cells
erase_from-requires-clause-cells c =
    subst AllDrawable (sym c.line_of-after.ensures.value) (line_drawable _ c.args.new.now (c.args.end - 1) c.requires.cells)

pub returns-then-col-after : goal.returns-then-col-after
returns-then-col-after c =
    let old = c.args.old.now in
    let new = c.args.new.now in
    let row = c.args.end - 1 in
    rows_erased _ _ _ old new row c.erased_from-col.result c.args.end _ _ c.requires.old_rows c.requires.new_cols (omega (arith, c.requires.within)) c.requires.below
    (inl (omega (arith, c.if-end-gt0.true))) c.requires.some (c.line_of-before.ensures.value ∙ ap (λ n. line_at n old row) c.requires.old_cols)
    (c.line_of-after.ensures.value ∙ ap (λ n. line_at n new row) c.requires.new_cols) c.in_ok-draw_lines.ensures c.in_ok-erase_from.ensures

pub erase_from-requires-2-clause-cells : goal.erase_from-requires-2-clause-cells
erase_from-requires-2-clause-cells c =
    subst AllDrawable (sym c.line_of-after-2.ensures.value) (line_drawable _ c.args.new.now c.args.end c.requires.cells)

pub erase_from-requires-2-clause-blank : goal.erase_from-requires-2-clause-blank
erase_from-requires-2-clause-blank c k low inside =
    let cols = c.args.w.now.cols in
    ap (λ r. cell_at r k)
    (blank_here cols c.args.w.now.height c.args.new.now c.args.end _ c.requires.new_cols c.requires.within c.requires.below
    (c.line_of-after-2.ensures.value ∙ ap (λ n. line_at n c.args.new.now c.args.end) c.requires.new_cols))
    ∙ blank_cell cols k

pub returns : goal.returns
returns c =
    let old = c.args.old.now in
    let new = c.args.new.now in
    let row = c.args.end in
    rows_erased _ _ _ old new row 0 row _ _ c.requires.old_rows c.requires.new_cols c.requires.within c.requires.below (inr (refl, refl)) c.requires.some
    (c.line_of-before-2.ensures.value ∙ ap (λ n. line_at n old row) c.requires.old_cols)
    (c.line_of-after-2.ensures.value ∙ ap (λ n. line_at n new row) c.requires.new_cols) c.in_ok-draw_lines-2.ensures c.in_ok-erase_from-2.ensures
