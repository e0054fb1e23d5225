use Rattle.std.proofs.Common.{◌≡◌, ◌≤◌, ◌+◌, take}
use Rattle.std.specs.List.{suffix_len}
use Rattle.completers.specs.Listed.{before_cursor}
use Rattle.completers.specs.Typed.{is_of_word, typed_len}
use Rattle.completers.proofs.typed.typed_len.Given as goal

abbrev pub invariant-loop-start : goal.invariant-loop-start
invariant-loop-start l = record {
  within : l.start ≤ l.doc.cursor;
  so_far : typed_len (before_cursor l.doc) + l.start ≡ l.doc.cursor + suffix_len (is_of_word l.last) (take l.start l.doc.text);
}

abbrev pub decreases-loop-start : goal.decreases-loop-start
decreases-loop-start l = l.start
