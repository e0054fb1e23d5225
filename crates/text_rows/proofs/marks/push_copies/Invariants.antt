-- As many marks as turns are added.
use Rattle.std.proofs.Common.{◌≡◌, ◌++◌, replicate}
use Rattle.text_rows.proofs.marks.push_copies.Given as goal

abbrev pub invariant-loop-turn : goal.invariant-loop-turn
invariant-loop-turn l = l.marks.items ≡ l.fn.marks.items ++ replicate l._turn l.mark
