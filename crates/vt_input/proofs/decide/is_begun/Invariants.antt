use Rattle.std.proofs.Common.{◌≡◌, drop}
use Rattle.vt_input.specs.Sequences.{is_begun}
use Rattle.vt_input.proofs.decide.is_begun.Given as goal

abbrev pub invariant-loop-row : goal.invariant-loop-row
invariant-loop-row l = is_begun (drop l.row-index l.rows) l.text ≡ is_begun l.rows l.text
