use Rattle.std.proofs.Common.{◌≡◌, take}
use Rattle.completers.specs.Suggested.{rest_of_newest}
use Rattle.completers.proofs.suggesting.newest_rest.Given as goal

abbrev pub invariant-loop-at : goal.invariant-loop-at
invariant-loop-at l = rest_of_newest (take l.at l.history) l.line ≡ rest_of_newest l.history l.line
