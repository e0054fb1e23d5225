use Rattle.std.proofs.Common.{arith}
use Rattle.win_view.proofs.FirstRows.{next_of}
use Rattle.win_view.proofs.rows.count_rows.Goals as goal

pub loop-count-smaller : goal.loop-count-smaller
loop-count-smaller c =
    let next = next_of c.args.width c.loop-count.count c.loop-count.rest.now c.split_at.result.1.now c.requires.width c.loop-count.invariant.first c.loop-count-test.true c.split_at.ensures.back in
    next.shorter

pub loop-count-preserved : goal.loop-count-preserved
loop-count-preserved c =
    let next = next_of c.args.width c.loop-count.count c.loop-count.rest.now c.split_at.result.1.now c.requires.width c.loop-count.invariant.first c.loop-count-test.true c.split_at.ensures.back in
    record {
      some = omega arith;
      few = omega (arith, next.shorter);
      first = c.first_row-count-in-loop-count.ensures;
      rows = λ rest. omega (arith, next.rows rest, c.loop-count.invariant.rows rest);
    }
