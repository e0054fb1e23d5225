use Rattle.std.proofs.Common.{◌-◌, length}
use Rattle.term_model.proofs.FitLemmas.{IsCut}
use Rattle.term_model.proofs.fitting.cut_row.Given as goal

abbrev pub invariant-loop-at : goal.invariant-loop-at
invariant-loop-at l = IsCut l.row l.cut l.at l.cols

abbrev pub decreases-loop-at : goal.decreases-loop-at
decreases-loop-at l = length l.row - l.at
