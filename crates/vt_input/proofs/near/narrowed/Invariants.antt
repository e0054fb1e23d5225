use Rattle.vt_input.specs.Near.{IsSameSearch}
use Rattle.vt_input.proofs.near.narrowed.Given as goal

abbrev pub invariant-loop-at : goal.invariant-loop-at
invariant-loop-at l = IsSameSearch l.rows l.near l.text
