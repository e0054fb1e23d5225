use Rattle.std.proofs.Common.{◌∙◌, ap, arith, length}
use Rattle.std.proofs.lemmas.List.{length-set}
use Rattle.diff_render.proofs.Copies.{rows_kept}
use Rattle.diff_render.proofs.kept.keep_grid.Goals as goal

pub loop-row-preserved : goal.loop-row-preserved
loop-row-preserved c = record {
  rows = ap length c.keep_row.ensures.row ∙ length-set _ _ _ ∙ c.loop-row.invariant.rows;
  cols = c.keep_row.ensures.cols ∙ c.loop-row.invariant.cols;
  so_far = rows_kept c.loop-row.kept _ c.args.grid.now c.loop-row.row (omega (arith, c.loop-row-test.true, c.loop-row.invariant.rows))
      (omega (arith, c.loop-row-test.true)) c.loop-row.invariant.so_far c.keep_row.ensures.row;
}
