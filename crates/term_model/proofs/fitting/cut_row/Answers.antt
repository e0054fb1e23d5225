use Rattle.std.proofs.Common.{arith}
use Rattle.term_model.proofs.FitLemmas.{next_lead, next_cut, ends}
use Rattle.term_model.proofs.fitting.cut_row.Goals as goal

pub overflow_add-at : goal.overflow_add-at
overflow_add-at c =
    let row = c.args.row.now in
    let last = ends row c.loop-at.cut c.loop-at.at c.args.cols c.cell.result.now c.loop-at.invariant c.if-at-cols.true (omega (arith, c.len.ensures, c.loop-at-test.true)) c.cell.ensures in
    omega (arith, last, c.columns-at.ensures, c.len.ensures)

pub push-requires : goal.push-requires
push-requires c =
    let row = c.args.row.now in
    rw c.cell_or_blank.ensures
    (next_lead row c.loop-at.cut c.loop-at.at c.args.cols c.cell.result.now c.loop-at.invariant c.if-at-cols.true (omega (arith, c.len.ensures, c.loop-at-test.true)) c.cell.ensures _)

pub loop-at-preserved : goal.loop-at-preserved
loop-at-preserved c =
    let row = c.args.row.now in
    rw (c.in_ok-push.ensures.ok, c.cell_or_blank.ensures, c.columns-at.ensures)
    (next_cut row c.loop-at.cut c.loop-at.at c.args.cols c.cell.result.now c.loop-at.invariant c.if-at-cols.true (omega (arith, c.len.ensures, c.loop-at-test.true)) c.cell.ensures)
