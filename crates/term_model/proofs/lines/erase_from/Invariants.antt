use Rattle.std.proofs.Common.{◌≡◌, ◌-◌}
use Rattle.term_model.proofs.EraseLemmas.{erased_so_far}
use Rattle.term_model.proofs.lines.erase_from.Given as goal

abbrev pub invariant-loop-place : goal.invariant-loop-place
invariant-loop-place l = l.row ≡ erased_so_far l.initial.row l.at (l.place - l.at) l.pen
