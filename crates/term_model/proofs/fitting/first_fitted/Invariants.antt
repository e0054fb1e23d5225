use Rattle.std.proofs.Common.{◌≡◌, map, take}
use Rattle.term_model.specs.Resizing.{fitted_line}
use Rattle.term_model.proofs.fitting.first_fitted.Given as goal

abbrev pub invariant-loop-line : goal.invariant-loop-line
invariant-loop-line l = l.fitted.items ≡ map (fitted_line l.cols) (take l.line l.lines.items)
