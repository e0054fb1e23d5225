use Rattle.std.proofs.Common.{◌≡◌, drop}
use Rattle.vt_input.specs.Sequences.{sequence_from, control_sequence}
use Rattle.vt_input.proofs.sequence.control_sequence_of.Given as goal

abbrev pub invariant-loop-n : goal.invariant-loop-n
invariant-loop-n l = sequence_from (drop l.n l.text) l.n l.late ≡ control_sequence l.text
