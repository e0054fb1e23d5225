use Rattle.std.proofs.Common.{take}
use Rattle.box_layout.specs.Placed.{AllInside}
use Rattle.box_layout.proofs.paint_tests.are_inside.Given as goal

abbrev pub invariant-loop-one : goal.invariant-loop-one
invariant-loop-one l = AllInside l.area (take l.one-index l.placed)
