use Rattle.std.proofs.Common.{◌≡◌, length}
use Rattle.text_doc.specs.Lines.{lines_of}
use Rattle.line_history.specs.Reading.{after_lines, ended}
use Rattle.line_history.proofs.ReadLines.{opening}
use Rattle.line_history.proofs.files.read_entries.Given as goal

abbrev pub invariant-loop-line : goal.invariant-loop-line
invariant-loop-line l = ended (after_lines l.reader (lines_of l.left)) ≡ ended (after_lines opening (lines_of l.bytes))

abbrev pub decreases-loop-line : goal.decreases-loop-line
decreases-loop-line l = length l.left
