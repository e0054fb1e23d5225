use Rattle.std.proofs.Common.{take}
use Rattle.key_proc.specs.Facts.{has}
use Rattle.key_proc.specs.Firing.{active}
use Rattle.key_proc.specs.Choices.{IsFound}
use Rattle.key_proc.proofs.choices.find.Given as goal

abbrev pub invariant-loop-binding : goal.invariant-loop-binding
invariant-loop-binding g l = IsFound (active (take l.binding-index l.binding-items) (has l.facts)) l.keys l.found
