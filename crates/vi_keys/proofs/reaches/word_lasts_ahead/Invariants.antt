-- The steps that are left lead from here to where all of them lead from the cursor.
use Rattle.std.proofs.Common.{◌≡◌, ◌≤◌, length}
use Rattle.edit_state.specs.WordMoves.{stepped}
use Rattle.vi_keys.specs.Reaches.{word_last_ahead, word_lasts_ahead}
use Rattle.vi_keys.proofs.reaches.word_lasts_ahead.Given as goal

abbrev pub invariant-loop-left : goal.invariant-loop-left
invariant-loop-left l = record {
  so_far : stepped (word_last_ahead l.big l.doc.text) l.left l.at ≡ word_lasts_ahead l.big l.doc l.count;
  within : l.at ≤ length l.doc.text;
}

abbrev pub decreases-loop-left : goal.decreases-loop-left
decreases-loop-left l = l.left
