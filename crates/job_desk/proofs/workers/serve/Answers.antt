use Rattle.std.proofs.Common.{true, false, refl, rules}
use Rattle.job_desk.proofs.WorkerLemmas.{served_none, served_one}
use Rattle.job_desk.proofs.workers.serve.Goals as goal

pub loop-init : goal.loop-init
loop-init g c = record { served = served_none _; shut = refl; is_open = c.requires }

pub returns-in-Err-clause-served : goal.returns-in-Err-clause-served
returns-in-Err-clause-served g c =
    served_one _ _ _ _ c.in-Some-next.request true c.loop.invariant.served c.in-Some-next.ensures.some c.in-Err.ensures.answered

pub loop-preserved : goal.loop-preserved
loop-preserved g c = record {
  served = served_one _ _ _ _ c.in-Some-next.request false c.loop.invariant.served c.in-Some-next.ensures.some c.in-Ok.ensures.answered;
  shut = search rules;
  is_open = c.in-Ok.ensures.open;
}
