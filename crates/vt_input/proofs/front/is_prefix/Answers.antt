use Rattle.std.proofs.Common.{sym}
use Rattle.vt_input.proofs.SequenceLemmas.{prefix-long}
use Rattle.vt_input.proofs.front.is_prefix.Goals as goal

pub returns-then-text-row : goal.returns-then-text-row
returns-then-text-row c = sym (prefix-long c.args.row.now c.args.text.now c.if-text-row.true)
