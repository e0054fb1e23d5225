use Rattle.std.proofs.Common.{◌≡◌, ◌++◌, drop, map}
use Rattle.vt_input.specs.Known.{row_of}
use Rattle.vt_input.proofs.table.rows_of.Given as goal

abbrev pub invariant-loop-entry : goal.invariant-loop-entry
invariant-loop-entry l = l.rows.items ++ map row_of (drop l.entry-index l.known) ≡ map row_of l.known
