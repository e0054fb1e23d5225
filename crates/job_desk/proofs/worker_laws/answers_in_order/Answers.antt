use Rattle.job_desk.proofs.WorkerLawLemmas.{in_order}
use Rattle.job_desk.proofs.worker_laws.answers_in_order.Goals as goal

pub returns : goal.returns
returns c = in_order
