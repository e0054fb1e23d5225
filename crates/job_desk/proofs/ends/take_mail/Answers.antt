use Rattle.job_desk.proofs.MailSteps.{takes}
use Rattle.job_desk.proofs.ends.take_mail.Goals as goal

pub recv_as-requires-clause-rule : goal.recv_as-requires-clause-rule
recv_as-requires-clause-rule g c = takes _ _ (rw c.loop.invariant.1 c.requires.end)
