use Rattle.job_desk.proofs.WorkerLawLemmas.{few_cut_short}
use Rattle.job_desk.proofs.worker_laws.few_are_cut_short.Goals as goal

pub returns : goal.returns
returns c = few_cut_short
