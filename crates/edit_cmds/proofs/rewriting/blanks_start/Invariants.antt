-- All from here to the cursor are spaces and tabs.
use Rattle.std.proofs.Common.{◌≡◌, ◌+◌, ◌≤◌, length, take}
use Rattle.std.specs.List.{suffix_len}
use Rattle.edit_cmds.specs.Inserting.{is_blank}
use Rattle.edit_cmds.proofs.rewriting.blanks_start.Given as goal

abbrev pub invariant-loop-at : goal.invariant-loop-at
invariant-loop-at l = record {
  so_far : l.at + suffix_len is_blank (take l.doc.cursor l.doc.text) ≡ l.doc.cursor + suffix_len is_blank (take l.at l.doc.text);
  before : l.at ≤ l.doc.cursor;
  within : l.doc.cursor ≤ length l.doc.text;
}

abbrev pub decreases-loop-at : goal.decreases-loop-at
decreases-loop-at l = l.at
