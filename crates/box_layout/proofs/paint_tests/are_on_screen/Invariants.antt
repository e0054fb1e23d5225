use Rattle.std.proofs.Common.{take}
use Rattle.box_layout.specs.Placed.{AllOnScreen}
use Rattle.box_layout.proofs.paint_tests.are_on_screen.Given as goal

abbrev pub invariant-loop-one : goal.invariant-loop-one
invariant-loop-one l = AllOnScreen (take l.one-index l.placed)
