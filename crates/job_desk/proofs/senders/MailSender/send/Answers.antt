use Rattle.job_desk.proofs.LetterLists.{ends-snoc}
use Rattle.job_desk.proofs.MailSteps.{sent_known}
use Rattle.job_desk.proofs.senders.MailSender.send.Goals as goal

pub invariant_of-self : goal.invariant_of-self
invariant_of-self g c =
    let known = sent_known _ _ _ _ c.self.invariant.1 c.send_mail.ensures.sent in
    (c.send_mail.ensures.seat, known.0, rw known.1 (ends-snoc _ _ (rw (← c.self.view_is) at c.requires)))
