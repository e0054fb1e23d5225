use Rattle.std.proofs.Common.{sym}
use Rattle.vt_input.proofs.NearLemmas.{same-none}
use Rattle.vt_input.proofs.near.narrowed.Goals as goal

pub returns-then-begins_plain : goal.returns-then-begins_plain
returns-then-begins_plain c = same-none c.args.rows.now c.args.text.now c.requires (sym c.if-begins_plain.ensures)
