use Rattle.std.proofs.Common.{◌≡◌, drop}
use Rattle.circular_buffer.specs.Buffer.{buffer}
use Rattle.edit_buffer.proofs.undo.pop_differing.Given as goal

abbrev pub invariant-loop : goal.invariant-loop
invariant-loop l = l.pairs ≡ buffer (drop l.counter l.initial.pairs.items) l.initial.pairs.capacity
