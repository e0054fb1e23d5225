use Rattle.std.proofs.Common.{length}
use Rattle.vt_input.specs.Near.{IsSameSearch}
use Rattle.vt_input.proofs.near.without_last.Given as goal

abbrev pub invariant-loop-row : goal.invariant-loop-row
invariant-loop-row l = IsSameSearch l.rows l.near l.text

abbrev pub decreases-loop-row : goal.decreases-loop-row
decreases-loop-row l = length l.near
