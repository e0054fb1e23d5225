use Rattle.job_desk.proofs.WorkerLawLemmas.{where_dead}
use Rattle.job_desk.proofs.worker_laws.cut_short_where_dead.Goals as goal

pub returns : goal.returns
returns c = where_dead
