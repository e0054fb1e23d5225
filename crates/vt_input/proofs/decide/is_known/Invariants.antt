use Rattle.std.proofs.Common.{◌≡◌, drop}
use Rattle.vt_input.specs.Sequences.{is_known}
use Rattle.vt_input.proofs.decide.is_known.Given as goal

abbrev pub invariant-loop-row : goal.invariant-loop-row
invariant-loop-row l = is_known (drop l.row-index l.rows) l.size l.text ≡ is_known l.rows l.size l.text
