-- The steps that are left lead from here to where all of them lead from the cursor.
use Rattle.std.proofs.Common.{◌≡◌, ◌≤◌, length}
use Rattle.edit_state.specs.WordMoves.{stepped, word_back, words_back}
use Rattle.edit_state.proofs.word_moves.words_back.Given as goal

abbrev pub invariant-loop-left : goal.invariant-loop-left
invariant-loop-left l = record {
  so_far : stepped (word_back l.big l.doc.text) l.left l.at ≡ words_back l.big l.doc l.count;
  passed : l.at ≤ l.doc.cursor;
  within : l.at ≤ length l.doc.text;
}

abbrev pub decreases-loop-left : goal.decreases-loop-left
decreases-loop-left l = l.left
