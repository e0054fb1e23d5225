-- All from the cursor up to here are spaces and tabs.
use Rattle.std.proofs.Common.{◌≡◌, ◌+◌, ◌-◌, ◌≤◌, length, drop}
use Rattle.std.specs.List.{prefix_len}
use Rattle.edit_cmds.specs.Inserting.{is_blank}
use Rattle.edit_cmds.proofs.rewriting.blanks_end.Given as goal

abbrev pub invariant-loop-at : goal.invariant-loop-at
invariant-loop-at l = record {
  so_far : l.at + prefix_len is_blank (drop l.at l.doc.text) ≡ l.doc.cursor + prefix_len is_blank (drop l.doc.cursor l.doc.text);
  behind : l.doc.cursor ≤ l.at;
  within : l.at ≤ length l.doc.text;
}

abbrev pub decreases-loop-at : goal.decreases-loop-at
decreases-loop-at l = length l.doc.text - l.at
