use Rattle.std.proofs.Common.{◌≡◌, drop}
use Rattle.vt_input.specs.Sequences.{is_prefix}
use Rattle.vt_input.proofs.front.is_prefix.Given as goal

abbrev pub invariant-loop-i : goal.invariant-loop-i
invariant-loop-i l = is_prefix (drop l.i l.row) (drop l.i l.text) ≡ is_prefix l.row l.text
