use Rattle.std.proofs.Common.{◌≡◌, take}
use Rattle.layout_dims.specs.Numbers.{greatest}
use Rattle.layout_dims.proofs.stage.greatest_of.Given as goal

abbrev pub invariant-loop-number : goal.invariant-loop-number
invariant-loop-number l = l.most ≡ greatest (take l.number-index l.numbers)
