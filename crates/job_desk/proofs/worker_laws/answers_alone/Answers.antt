use Rattle.job_desk.proofs.WorkerLawLemmas.{answers_only}
use Rattle.job_desk.proofs.worker_laws.answers_alone.Goals as goal

pub returns : goal.returns
returns c = answers_only
