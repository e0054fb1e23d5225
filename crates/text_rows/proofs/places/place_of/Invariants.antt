use Rattle.std.proofs.Common.{◌≡◌, ◌+◌, ◌≤◌, length, take}
use Rattle.text_doc.specs.Lines.{lines_of}
use Rattle.text_rows.specs.Places.{last_line}
use Rattle.text_rows.proofs.places.place_of.Given as goal

-- the lines so far and those of what is left are those before the place
abbrev pub invariant-loop-rest : goal.invariant-loop-rest
invariant-loop-rest l = record {
  count : l.line + length (lines_of l.left) ≡ length (lines_of (take l.at l.drawn.text));
  last : last_line (lines_of l.left) ≡ last_line (lines_of (take l.at l.drawn.text));
  few : l.line + length l.left ≤ l.at;
}

abbrev pub decreases-loop-rest : goal.decreases-loop-rest
decreases-loop-rest l = length l.left
