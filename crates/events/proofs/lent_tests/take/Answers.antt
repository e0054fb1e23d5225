-- one call more
use Rattle.events.proofs.ChainLemmas.{chain_snoc}
use Rattle.events.proofs.lent_tests.take.Goals as goal

pub returns-then-is_err : goal.returns-then-is_err
returns-then-is_err g c =
    (_, chain_snoc g.I.Inbox.heard _ c.loop.invariant.0 _ c.next.result _ c.loop.invariant.1 c.next.ensures.heard)

pub loop-preserved : goal.loop-preserved
loop-preserved g c =
    (_, chain_snoc g.I.Inbox.heard _ c.loop.invariant.0 _ c.next.result _ c.loop.invariant.1 c.next.ensures.heard)
