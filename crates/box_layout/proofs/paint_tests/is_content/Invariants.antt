use Rattle.std.proofs.Common.{◌≡◌, ◌+◌, ◌-◌, ◌^◌, length, min, sum_by, take}
use Rattle.box_layout.proofs.paint_tests.is_content.Given as goal

abbrev pub invariant-loop-line : goal.invariant-loop-line
invariant-loop-line l = l.few ≡ min (2 ^ 64 - 1) (length l.lines + sum_by length (take l.line-index l.lines))
