use Rattle.std.proofs.Common.{◌≡◌, ◌++◌, true, drop, string_bytes}
use Rattle.line_history.specs.History.{entry_bytes}
use Rattle.line_history.proofs.EntryBytes.{written}
use Rattle.line_history.proofs.entries.entry_text.Given as goal
use lib.Utf8.{scalars}

abbrev pub invariant-loop-c : goal.invariant-loop-c
invariant-loop-c l = record {
  so_far : string_bytes l.words ++ written (drop l.c-index l.c-items) ≡ entry_bytes l.fn.entry l.fn.moment;
  valid : scalars (drop l.c-index l.c-items) ≡ true → scalars l.c-items ≡ true;
}
