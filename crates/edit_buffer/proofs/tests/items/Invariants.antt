use Rattle.edit_buffer.specs.BufferState.{ReachWithin}
use Rattle.edit_buffer.proofs.tests.items.Given as goal

abbrev pub invariant-loop : goal.invariant-loop
invariant-loop l = ReachWithin 1 l.items
