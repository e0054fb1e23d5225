use Rattle.std.proofs.Common.{◌≡◌, ◌++◌, drop, map}
use Rattle.key_proc.specs.Rows.{binding_of}
use Rattle.key_proc.proofs.rows.bindings_in.Given as goal

abbrev pub invariant-loop-row : goal.invariant-loop-row
invariant-loop-row l = l.bindings.items ++ map binding_of (drop l.row-index l.rows) ≡ map binding_of l.rows
