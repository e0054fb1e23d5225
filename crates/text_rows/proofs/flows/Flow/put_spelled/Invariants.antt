-- The rows so far, with those that the characters left begin, are all.
use Rattle.std.proofs.Common.{◌+◌, ◌*◌, ◌≤◌, drop}
use Rattle.std.specs.Prelude.{flat_map}
use Rattle.text_rows.specs.Flows.{char_columns}
use Rattle.text_rows.proofs.FlowLemmas.{Counted}
use Rattle.text_rows.proofs.flows.Flow.put_spelled.Given as goal

abbrev pub invariant-loop-c : goal.invariant-loop-c
invariant-loop-c l =
    Counted l.width l.self.rows l.self.room l.fn.self.rows l.fn.self.room (flat_map char_columns (drop l.c-index l.chars)) (flat_map char_columns l.chars)
    × (l.self.rows ≤ l.fn.self.rows + 4 * l.c-index)
