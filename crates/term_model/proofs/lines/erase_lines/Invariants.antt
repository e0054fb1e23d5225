use Rattle.std.proofs.Common.{◌≡◌, ◌-◌}
use Rattle.term_model.proofs.EraseLemmas.{lines_erased}
use Rattle.term_model.proofs.lines.erase_lines.Given as goal

abbrev pub invariant-loop-line : goal.invariant-loop-line
invariant-loop-line l = l.lines.items ≡ lines_erased l.initial.lines.items l.from (l.line - l.from) l.cols l.pen
