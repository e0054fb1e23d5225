-- Where there is no memory for the run it does nothing.
use Rattle.std.proofs.Common.{refl}
use Rattle.session_core.specs.State.{opened}
use Rattle.prompt_run.specs.Course.{around}
use Rattle.prompt_run.specs.Wishes.{Stands}
use Rattle.prompt_run.proofs.InboxLemmas.{no_run}
use Rattle.prompt_run.proofs.prompts.run.Goals as goal

pub returns-in-Err-clause-ran : goal.returns-in-Err-clause-ran
returns-in-Err-clause-ran g c =
    rw c.new-in-Err.ensures
    (no_run g.I.Inbox.heard g.S.Screen.took g.S.Screen.missed (Stands (g.J.Jobs.faults c.args.jobs.now) (g.J.Jobs.faults c.args.jobs.now))
    (opened c.args.opening.settings c.args.opening.entries c.args.entered.size c.args.entered.moment) c.args.inbox.now
    (around c.args.screen.now (g.K.Keeper.kept c.args.keeper.now) (g.J.Jobs.wanted c.args.jobs.now)) refl)
