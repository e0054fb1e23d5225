-- The rows so far, with those that the characters left begin, are all.
use Rattle.std.proofs.Common.{◌+◌, ◌≤◌, drop}
use Rattle.text_rows.proofs.FlowLemmas.{Counted}
use Rattle.text_rows.proofs.flows.Flow.put_all.Given as goal

abbrev pub invariant-loop-one : goal.invariant-loop-one
invariant-loop-one l =
    Counted l.width l.self.rows l.self.room l.fn.self.rows l.fn.self.room (drop l.one-index l.columns) l.columns
    × (l.self.rows ≤ l.fn.self.rows + l.one-index)
