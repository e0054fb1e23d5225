-- The steps that are left lead from here to where all of them lead from the cursor.
use Rattle.std.proofs.Common.{◌≡◌, ◌≤◌, length}
use Rattle.edit_state.specs.WordMoves.{stepped, word_start_ahead, word_starts_ahead}
use Rattle.edit_state.proofs.word_moves.word_starts_ahead.Given as goal

abbrev pub invariant-loop-left : goal.invariant-loop-left
invariant-loop-left l = record {
  so_far : stepped (word_start_ahead l.big l.doc.text) l.left l.at ≡ word_starts_ahead l.big l.doc l.count;
  passed : l.doc.cursor ≤ l.at;
  within : l.at ≤ length l.doc.text;
}

abbrev pub decreases-loop-left : goal.decreases-loop-left
decreases-loop-left l = l.left
