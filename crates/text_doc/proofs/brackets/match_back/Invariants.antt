use Rattle.text_doc.proofs.BracketWalks.{IsClosing}
use Rattle.text_doc.proofs.brackets.match_back.Given as goal

abbrev pub invariant-loop-at : goal.invariant-loop-at
invariant-loop-at l = IsClosing l.opening l.closing l.text l.cursor l.at l.depth
