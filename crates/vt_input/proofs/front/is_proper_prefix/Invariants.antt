use Rattle.std.proofs.Common.{◌≡◌, drop}
use Rattle.vt_input.specs.Sequences.{is_proper_prefix}
use Rattle.vt_input.proofs.front.is_proper_prefix.Given as goal

abbrev pub invariant-loop-i : goal.invariant-loop-i
invariant-loop-i l = is_proper_prefix (drop l.i l.text) (drop l.i l.row) ≡ is_proper_prefix l.text l.row
