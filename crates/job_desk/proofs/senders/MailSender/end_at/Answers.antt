use Rattle.crossbeam_channel.specs.Claims.{view}
use Rattle.job_desk.specs.Letters.{letters_of}
use Rattle.job_desk.specs.Mailbox.{taken_of}
use Rattle.job_desk.proofs.LetterLists.{whole, pieces_whole}
use Rattle.job_desk.proofs.MailSteps.{merges, learns, compared}
use Rattle.job_desk.proofs.senders.MailSender.end_at.Goals as goal

pub absorb-requires-clause-rule : goal.absorb-requires-clause-rule
absorb-requires-clause-rule c = merges _ _ _ _ _ c.requires.end c.self.invariant.1

pub learn_as-requires-clause-rule : goal.learn_as-requires-clause-rule
learn_as-requires-clause-rule c = learns _ _

pub returns-clause-start : goal.returns-clause-start
returns-clause-start c =
    rw (← c.self.view_is)
    (letters_of c.self.inside.number c.learn_as.ensures.rule.0, compared _ _ _ _ _ c.requires.end c.self.invariant.1 c.absorb.ensures.rule c.learn_as.ensures.rule.1)

pub returns-clause-whole : goal.returns-clause-whole
returns-clause-whole c =
    rw (← c.self.view_is) (whole _ _ _ (compared _ _ _ _ _ c.requires.end c.self.invariant.1 c.absorb.ensures.rule c.learn_as.ensures.rule.1) c.self.invariant.2)

pub returns-clause-input : goal.returns-clause-input
returns-clause-input c =
    let taken = letters_of c.self.inside.number (taken_of (view c.args.end.now)) in
    let queued = letters_of c.self.inside.number c.learn_as.ensures.rule.0 in
    rw (← c.self.view_is) (pieces_whole taken queued _ (compared _ _ _ _ _ c.requires.end c.self.invariant.1 c.absorb.ensures.rule c.learn_as.ensures.rule.1))
