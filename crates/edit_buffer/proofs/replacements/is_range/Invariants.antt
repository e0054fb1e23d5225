use Rattle.std.proofs.Common.{◌≡◌, take, drop}
use Rattle.edit_buffer.proofs.replacements.is_range.Given as goal

abbrev pub invariant-loop-i : goal.invariant-loop-i
invariant-loop-i l = take l.i (drop l.from l.doc.text) ≡ take l.i l.chars
