use Rattle.std.proofs.Common.{◌≡◌, ℕ, ◌<◌, false, get_or}
use Rattle.text_doc.proofs.lines.cut_line.Given as goal

-- no unit so far is a line feed
abbrev pub invariant-loop-at : goal.invariant-loop-at
invariant-loop-at g l = (k : ℕ) (d : _) → k < l.at → g.T.TextUnit.ends_line (get_or l.text k d) ≡ false
