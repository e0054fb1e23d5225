use Rattle.job_desk.proofs.MailSteps.{sends}
use Rattle.job_desk.proofs.senders.send_mail.Goals as goal

pub send_as-requires-clause-rule : goal.send_as-requires-clause-rule
send_as-requires-clause-rule g c = sends _ _ _ _ (rw (c.loop.invariant.1, c.loop.invariant.2) c.requires.known)
