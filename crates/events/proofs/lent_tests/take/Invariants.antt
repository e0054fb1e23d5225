-- what the calls so far did
use Rattle.std.proofs.Common.{List, Result}
use Rattle.causes.specs.Chain.{Chain}
use Rattle.events.specs.declared.events.Event.{Event}
use Rattle.events.specs.declared.inboxes.InboxFault.{InboxFault}
use Rattle.events.proofs.lent_tests.take.Given as goal

abbrev pub invariant-loop : goal.invariant-loop
invariant-loop g l = (answers : List (Result Event InboxFault)) × Chain g.I.Inbox.heard l.fn.inbox answers l.inbox
