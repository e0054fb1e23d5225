use Rattle.key_proc.proofs.Flushing.{never-waits, nothing-held, flush-ends}
use Rattle.key_proc.proofs.laws.flush_ends.Goals as goal

pub returns-clause-never_waits : goal.returns-clause-never_waits
returns-clause-never_waits c = never-waits

pub returns-clause-nothing_held : goal.returns-clause-nothing_held
returns-clause-nothing_held c = nothing-held

pub returns-clause-ends : goal.returns-clause-ends
returns-clause-ends c = flush-ends
