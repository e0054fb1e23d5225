-- The steps that are left lead from here to where all of them lead from the cursor.
use Rattle.std.proofs.Common.{◌≡◌, ◌≤◌, length}
use Rattle.edit_state.specs.WordMoves.{stepped, word_end_ahead, word_ends_ahead}
use Rattle.edit_state.proofs.word_moves.word_ends_ahead.Given as goal

abbrev pub invariant-loop-left : goal.invariant-loop-left
invariant-loop-left l = record {
  so_far : stepped (word_end_ahead l.big l.doc.text) l.left l.at ≡ word_ends_ahead l.big l.doc l.count;
  passed : l.doc.cursor ≤ l.at;
  within : l.at ≤ length l.doc.text;
}

abbrev pub decreases-loop-left : goal.decreases-loop-left
decreases-loop-left l = l.left
