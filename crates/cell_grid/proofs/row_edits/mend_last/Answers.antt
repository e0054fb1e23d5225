use Rattle.std.proofs.Common.{◌-◌, length, arith}
use Rattle.cell_grid.proofs.EditLemmas.{mend_end-wide, mend_end-other, mend_end-empty}
use Rattle.cell_grid.proofs.row_edits.mend_last.Goals as goal
use Rattle.cell_grid.proofs.row_edits.mend_last.Goals.{else-len-gt0-via-then-len-gt0+else-is_wide, else-len-gt0-via-else-len-gt0}

pub returns-then-is_wide : goal.returns-then-is_wide
returns-then-is_wide c =
    rw c.blank.ensures (mend_end-wide c.args.front.now (length c.args.front.now - 1) c.index-front-len.result (omega arith) c.index-front-len.is c.if-is_wide.ensures)

pub returns-else-len-gt0 : goal.returns-else-len-gt0
returns-else-len-gt0 c =
    elim c.else-len-gt0.branch [
      | else-len-gt0-via-then-len-gt0+else-is_wide w ↦
          mend_end-other c.args.front.now (length c.args.front.now - 1) w.index-front-len.result (omega arith) w.index-front-len.is w.if-is_wide.ensures
      | else-len-gt0-via-else-len-gt0 w ↦ mend_end-empty c.args.front.now (omega arith)
    ]
