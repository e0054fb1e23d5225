use Rattle.std.proofs.Common.{◌-◌}
use Rattle.diff_render.specs.Writer.{Moves}
use Rattle.diff_render.proofs.writer.Writer.go_down.Given as goal

abbrev pub invariant-loop-line : goal.invariant-loop-line
invariant-loop-line l = Moves l.initial.self l.self l._line l.initial.self.col l.initial.self.pen (l._line - l.initial.self.row)
