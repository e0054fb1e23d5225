-- What is left from here completes what all words make, and as many characters were put as were passed.
use Rattle.std.proofs.Common.{◌≡◌, ◌+◌, ◌++◌, ◌≤◌, false, length}
use Rattle.edit_state.specs.WordMoves.{stepped, word_end_ahead, word_ends_ahead}
use Rattle.edit_cmds.specs.Rewriting.{words_cased}
use Rattle.edit_cmds.proofs.rewriting.words_cased.Given as goal

abbrev pub invariant-loop-left : goal.invariant-loop-left
invariant-loop-left l = record {
  so_far : l.text ++ words_cased l.case l.doc.text l.at l.left ≡ words_cased l.case l.doc.text l.doc.cursor l.count;
  steps : stepped (word_end_ahead false l.doc.text) l.left l.at ≡ word_ends_ahead false l.doc l.count;
  passed : l.doc.cursor + length l.text ≡ l.at;
  within : l.at ≤ length l.doc.text;
}

abbrev pub decreases-loop-left : goal.decreases-loop-left
decreases-loop-left l = l.left
