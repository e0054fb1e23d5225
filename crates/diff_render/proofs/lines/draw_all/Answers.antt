use Rattle.std.proofs.Common.{◌-◌, ◌∙◌, arith, sym, subst, take}
use Rattle.cell_grid.specs.Grid.{AllRows}
use Rattle.diff_render.specs.Redrawn.{IsBlankBelow}
use Rattle.diff_render.proofs.LineEnds.{blank_taken, columns_taken, few_taken, rows_same_end, some_changed}
use Rattle.diff_render.proofs.lines.draw_all.Goals as goal

pub erase_rest-requires-clause-some : goal.erase_rest-requires-clause-some
erase_rest-requires-clause-some c =
    let height = c.args.w.now.height in
    let old = c.args.old.now in
    let new = c.args.new.now in
    let old_end = c.blank_below-old_end.result in
    some_changed height c.args.w.now.cols old (take height new) c.min-end.result (old_end - 1)
    (subst (λ n. AllRows n old) (c.cols.ensures.value ∙ c.requires.old_cols) c.cols.ensures.every) c.requires.old_cols
    (columns_taken height new (omega (arith, c.requires.placed.on_line)) ∙ c.requires.new_cols) c.requires.old_rows (few_taken height new)
    (subst (λ n. IsBlankBelow n (take height new)) (sym c.min-end.ensures)
    (blank_taken c.blank_below.result height new (omega (arith, c.requires.placed.on_line)) c.blank_below.ensures.blank))
    (omega (arith, c.if-end-old_end.true)) (omega (arith, c.if-end-old_end.true, c.blank_below-old_end.ensures.within))
    (c.blank_below-old_end.ensures.drawn (omega (arith, c.if-end-old_end.true)))

pub returns : goal.returns
returns c =
    let height = c.args.w.now.height in
    let new = c.args.new.now in
    rows_same_end _ _ c.args.old.now (take height new) _ _ c.requires.old_cols
    (columns_taken height new (omega (arith, c.requires.placed.on_line)) ∙ c.requires.new_cols) c.requires.old_rows (few_taken height new)
    (omega (arith, c.min-end.ensures))
    (subst (λ n. IsBlankBelow n (take height new)) (sym c.min-end.ensures)
    (blank_taken c.blank_below.result height new (omega (arith, c.requires.placed.on_line)) c.blank_below.ensures.blank))
    c.blank_below-old_end.ensures.blank c.if-end-old_end.false c.in_ok-draw_lines.ensures
