use Rattle.text_doc.proofs.BracketWalks.{IsOpen}
use Rattle.text_doc.proofs.brackets.match_ahead.Given as goal

abbrev pub invariant-loop-at : goal.invariant-loop-at
invariant-loop-at l = IsOpen l.opening l.closing l.text l.cursor l.at l.depth
