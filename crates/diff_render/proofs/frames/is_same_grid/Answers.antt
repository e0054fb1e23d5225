use Rattle.std.proofs.Common.{◌<◌, length, arith}
use Rattle.std.proofs.lemmas.Bool.{false≢true}
use Rattle.diff_render.proofs.Copies.{same_more, rows_differ, rows_same}
use Rattle.diff_render.proofs.frames.is_same_grid.Goals as goal

pub returns-then-ne : goal.returns-then-ne
returns-then-ne c =
    (λ h. absurd (false≢true h), λ same. absurd (rows_differ _ _ _ _ _ c.row.ensures.value c.row-in-loop-row.ensures.value c.if-ne.ensures same))

pub loop-row-preserved : goal.loop-row-preserved
loop-row-preserved c =
    let a = c.args.a.now in
    let b = c.args.b.now in
    let rows = c.loop-row.invariant.rows in
    let inside : c.loop-row.row < length a = omega arith in
    record {
      rows = rows;
      so_far = same_more a b c.loop-row.row inside (omega arith) c.loop-row.invariant.so_far
          (rows_same a b c.loop-row.row _ _ c.row.ensures.value c.row-in-loop-row.ensures.value c.if-ne.ensures);
    }
