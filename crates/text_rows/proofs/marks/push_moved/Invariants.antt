-- The marks so far are moved.
use Rattle.std.proofs.Common.{◌≡◌, ◌++◌, take}
use Rattle.text_rows.specs.Flows.{moved}
use Rattle.text_rows.proofs.marks.push_moved.Given as goal

abbrev pub invariant-loop-mark : goal.invariant-loop-mark
invariant-loop-mark l = l.to_marks.items ≡ l.fn.to_marks.items ++ moved l.from l.to (take l.mark-index l.marks)
