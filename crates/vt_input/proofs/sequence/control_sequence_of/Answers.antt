use Rattle.std.proofs.Common.{sym, ◌∙◌, arith, drop}
use Rattle.vt_input.proofs.SequenceLemmas.{sequence_from-limit}
use Rattle.vt_input.proofs.sequence.control_sequence_of.Goals as goal

pub returns-else-text-lt-SEQUENCE_LIMIT : goal.returns-else-text-lt-SEQUENCE_LIMIT
returns-else-text-lt-SEQUENCE_LIMIT c =
    sym (sequence_from-limit (drop c.loop-n.n c.args.text.now) c.loop-n.n c.loop-n.late (omega arith)) ∙ c.loop-n.invariant
