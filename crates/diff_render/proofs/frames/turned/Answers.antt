use Rattle.std.proofs.Common.{◌≤◌, length, sym, subst, arith}
use Rattle.std.specs.String.{string_bytes}
use Rattle.diff_render.specs.Turning.{Closes, Turns}
use Rattle.diff_render.proofs.FrameTurns.{turns_open, turns_done}
use Rattle.diff_render.proofs.frames.turned.Goals as goal

pub returns : goal.returns
returns c =
    let size = c.args.size in
    subst (λ d. Turns size.rows size.cols c.args.old.now c.args.row c.args.col c.args.drawing.now d (string_bytes c.settle.new.w.out)) (sym c.if-done.false)
    (turns_open _ _ _ _ _ _ _ c.new.ensures.bytes c.plain.ensures c.rows.ensures.value c.cols-2.ensures.value c.rows-2.ensures.value
    c.in_ok-redraw.ensures c.in_ok-settle.ensures (c.requires.cursor c.if-done.false).in_rows)

pub returns-then-done : goal.returns-then-done
returns-then-done c =
    let size = c.args.size in
    let some : 1 ≤ length c.args.drawing.now.grid = omega (arith, c.rows-then-done.ensures.value, c.rows-then-done.ensures.some) in
    subst (λ d. Turns size.rows size.cols c.args.old.now c.args.row c.args.col c.args.drawing.now d (string_bytes c.close.new.w.out)) (sym c.if-done.true)
    (turns_done _ _ _ _ _ _ _ c.new.ensures.bytes c.plain.ensures c.rows.ensures.value c.cols-2.ensures.value c.rows-2.ensures.value
    c.in_ok-redraw.ensures (subst (λ n. Closes c.redraw.new.w c.close.new.w n) c.rows-then-done.ensures.value c.in_ok-close.ensures) some c.requires.fits.high)
