use Rattle.std.proofs.Common.{◌≡◌, length}
use Rattle.term_model.specs.Term.{IsTerminal}
use Rattle.term_model.specs.Fields.{term_of}
use Rattle.term_model.specs.Obeying.{obeyed_bytes}
use Rattle.term_model.proofs.state.State.obey.Given as goal

-- the bytes that are left do from here what all of them do from the start
abbrev pub invariant-loop-control : goal.invariant-loop-control
invariant-loop-control l =
    IsTerminal (term_of l.self) × (obeyed_bytes (term_of l.self) l.rest ≡ obeyed_bytes (term_of l.fn.self) l.fn.bytes)

abbrev pub decreases-loop-control : goal.decreases-loop-control
decreases-loop-control l = length l.rest
