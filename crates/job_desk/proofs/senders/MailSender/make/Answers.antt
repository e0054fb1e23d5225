use Rattle.job_desk.proofs.MailSteps.{forks}
use Rattle.job_desk.proofs.senders.MailSender.make.Goals as goal

pub another-pass-requires-clause-rule : goal.another-pass-requires-clause-rule
another-pass-requires-clause-rule c = forks _ c.args.number _ c.requires.known
