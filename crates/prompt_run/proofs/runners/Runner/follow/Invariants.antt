use Rattle.std.proofs.Common.{◌≤◌}
use Rattle.prompt_run.specs.Course.{around}
use Rattle.prompt_run.specs.Runs.{MayGoOn}
use Rattle.prompt_run.specs.Wishes.{CountsOn}
use Rattle.prompt_run.proofs.CourseLemmas.{HasFollowed}
use Rattle.prompt_run.proofs.runners.Runner.follow.Given as goal

-- the run may go on, the prompts that are left, from the play so far, are all that follow, and no count of faults has fallen
abbrev pub invariant-loop-left : goal.invariant-loop-left
invariant-loop-left g l = record {
  may : MayGoOn l.self;
  screen_later : g.S.Screen.faults l.fn.screen ≤ g.S.Screen.faults l.screen;
  keeper_later : g.K.Keeper.faults l.fn.keeper ≤ g.K.Keeper.faults l.keeper;
  counts : CountsOn (g.J.Jobs.faults l.fn.jobs) (g.J.Jobs.faults l.jobs);
  so_far : HasFollowed g.S.Screen.took l.fn.self (around l.fn.screen (g.K.Keeper.kept l.fn.keeper) (g.J.Jobs.wanted l.fn.jobs)) l.left l.self
      (around l.screen (g.K.Keeper.kept l.keeper) (g.J.Jobs.wanted l.jobs));
}

abbrev pub decreases-loop-left : goal.decreases-loop-left
decreases-loop-left g l = l.left
