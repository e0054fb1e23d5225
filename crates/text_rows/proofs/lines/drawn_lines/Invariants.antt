use Rattle.std.proofs.Common.{◌≡◌, ◌+◌, ◌++◌, length}
use Rattle.text_doc.specs.Lines.{lines_of}
use Rattle.text_rows.specs.Lines.{lines_from}
use Rattle.text_rows.proofs.lines.drawn_lines.Given as goal

-- the lines so far and those of what is left are all lines
abbrev pub invariant-loop-line : goal.invariant-loop-line
invariant-loop-line l = record {
  all : l.lines ++ lines_from l.drawn l.before l.start (lines_of l.left) ≡ lines_from l.drawn l.drawn.message 0 (lines_of l.drawn.text);
  place : l.start + length l.left ≡ length l.drawn.text;
}

abbrev pub decreases-loop-line : goal.decreases-loop-line
decreases-loop-line l = length l.left
