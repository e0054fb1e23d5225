use Rattle.std.proofs.Common.{arith}
use Rattle.text_doc.specs.Rows.{index_of}
use Rattle.text_doc.proofs.rows.index_of.Goals as goal

pub returns-then-col-end-clause-place : goal.returns-then-col-end-clause-place
unfolding index_of
returns-then-col-end-clause-place c =
    rw (← c.row_start-start.ensures.start, ← c.line_end-end.ensures.end) (omega arith)

pub returns-else-col-end-clause-place : goal.returns-else-col-end-clause-place
unfolding index_of
returns-else-col-end-clause-place c =
    rw (← c.row_start-start.ensures.start, ← c.line_end-end.ensures.end) (omega arith)
