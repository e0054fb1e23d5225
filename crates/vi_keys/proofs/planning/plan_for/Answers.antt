-- Opening a row leaves the count of a waiting operator.
use Rattle.std.proofs.Common.{subst, sym}
use Rattle.edit_state.specs.declared.vi_states.ViState.{ViState}
use Rattle.vi_keys.specs.declared.plans.Plan.{Plan}
use Rattle.vi_keys.specs.Plans.{Counts}
use Rattle.vi_keys.proofs.Results.{ok_implies}
use Rattle.vi_keys.proofs.planning.plan_for.Goals as goal

pub returns-in-Open-clause-counts : goal.returns-in-Open-clause-counts
returns-in-Open-clause-counts c =
    let before : ViState = c.args.vi in
    let inserting : ViState = c.in_mode-in-Open.result in
    ok_implies c.opened.result (λ (plan : Plan). Counts inserting → Counts before → Counts plan.vi) (λ (plan : Plan). Counts before → Counts plan.vi)
    (λ plan kept counts. kept (subst Counts (sym c.in_mode-in-Open.ensures) counts) counts) c.opened.ensures.counts
