-- The characters so far are those of the needle.
use Rattle.std.proofs.Common.{◌≡◌, ◌++◌, take, drop}
use Rattle.edit_state.proofs.spots.has_at.Given as goal

abbrev pub invariant-loop-i : goal.invariant-loop-i
invariant-loop-i l = take l.i (drop l.at (l.front ++ l.back)) ≡ take l.i l.needle
