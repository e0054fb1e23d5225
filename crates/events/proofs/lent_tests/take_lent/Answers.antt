-- each call keeps what is borrowed, and does what it does to that
use Rattle.events.specs.Inboxes.{Gives}
use Rattle.events.specs.declared.lent_tests.LentInbox.{LentInbox}
use Rattle.events.proofs.ChainLemmas.{chain_along, chain_keeps}
use Rattle.events.proofs.lent_tests.take_lent.Goals as goal

pub returns-clause-same_reference : goal.returns-clause-same_reference
returns-clause-same_reference c =
    chain_keeps {S = LentInbox} _ (λ l. l.inbox.ghost_name) (λ old thing new step. step.0) _ c.take.ensures.0 _ c.take.ensures.1

pub returns-clause-taken : goal.returns-clause-taken
returns-clause-taken c = (
  c.take.ensures.0,
  chain_along {S = LentInbox} _ Gives (λ l. l.inbox.now) (λ old thing new step. step.1) _ c.take.ensures.0 _ c.take.ensures.1,
)
