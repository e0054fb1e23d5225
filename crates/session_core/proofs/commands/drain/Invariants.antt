use Rattle.std.proofs.Common.{length}
use Rattle.session_core.proofs.DrainLemmas.{Drains}
use Rattle.session_core.proofs.commands.drain.Given as goal

abbrev pub invariant-loop-alloc : goal.invariant-loop-alloc
invariant-loop-alloc l =
    Drains l.flush (record { edit = l.fn.edit; held = l.fn.held; outcome = l.fn.outcome }) (record { edit = l.edit; held = l.held; outcome = l.outcome })

abbrev pub decreases-loop-alloc : goal.decreases-loop-alloc
decreases-loop-alloc l = length l.held
