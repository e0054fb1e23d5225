use Rattle.std.proofs.Common.{◌≡◌, length, arith, ap, ◌∙◌, add-one, length-set}
use Rattle.cell_grid.proofs.GridLemmas.{blitted_more}
use Rattle.cell_grid.proofs.grid.Grid.blit.Goals as goal

pub loop-i-preserved : goal.loop-i-preserved
loop-i-preserved c =
    let i = c.loop-i.i in
    let kept : length c.lay.new.self ≡ length c.loop-i.self = ap length c.lay.ensures.laid ∙ length-set _ _ _ in
    record {
      so_far =
          rw (c.lay.ensures.laid, c.row.ensures.value, c.loop-i.invariant.so_far, add-one i)
          (blitted_more c.args.self.now c.args.part.now c.args.row c.args.col i (omega arith) (omega arith));
      count = kept ∙ c.loop-i.invariant.count;
      width = c.lay.ensures.cols ∙ c.loop-i.invariant.width;
      few = omega (arith, kept);
    }
