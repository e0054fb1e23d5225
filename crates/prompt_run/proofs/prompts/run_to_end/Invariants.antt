use Rattle.std.proofs.Common.{◌≤◌}
use Rattle.prompt_run.specs.Course.{around}
use Rattle.prompt_run.specs.Runs.{MayGoOn}
use Rattle.prompt_run.specs.Wishes.{CountsOn}
use Rattle.prompt_run.proofs.InboxLemmas.{HasRun}
use Rattle.prompt_run.proofs.prompts.run_to_end.Given as goal

-- the run may go on and came to the play of the events so far, and no count of faults has fallen
abbrev pub invariant-loop : goal.invariant-loop
invariant-loop g l = record {
  may : MayGoOn l.runner;
  inbox_later : g.I.Inbox.faults l.fn.inbox ≤ g.I.Inbox.faults l.inbox;
  screen_later : g.S.Screen.faults l.fn.screen ≤ g.S.Screen.faults l.screen;
  keeper_later : g.K.Keeper.faults l.fn.keeper ≤ g.K.Keeper.faults l.keeper;
  counts : CountsOn (g.J.Jobs.faults l.fn.jobs) (g.J.Jobs.faults l.jobs);
  run : HasRun g.I.Inbox.heard g.S.Screen.took l.fn.runner.session l.runner l.fn.inbox l.inbox
      (around l.fn.screen (g.K.Keeper.kept l.fn.keeper) (g.J.Jobs.wanted l.fn.jobs))
      (around l.screen (g.K.Keeper.kept l.keeper) (g.J.Jobs.wanted l.jobs));
}
