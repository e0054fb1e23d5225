use Rattle.std.proofs.Common.{◌≡◌, take}
use Rattle.box_layout.specs.Painting.{cursor}
use Rattle.box_layout.proofs.focus.cursor_of_all.Given as goal

abbrev pub invariant-loop-one : goal.invariant-loop-one
invariant-loop-one l = l.place ≡ cursor (take l.one-index l.placed)
