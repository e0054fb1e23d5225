-- An event of a prompt that goes on, and the prompts that follow.
use Rattle.std.proofs.lemmas.Result.{err_from_is_err_and}
use Rattle.prompt_run.specs.Course.{around}
use Rattle.prompt_run.specs.Wishes.{Stands}
use Rattle.prompt_run.proofs.CauseLemmas.{counts_on, stands_last}
use Rattle.prompt_run.proofs.CourseLemmas.{done_goes, done_stops_behind, done_stops_first}
use Rattle.prompt_run.proofs.runners.Runner.take.Goals as goal

pub returns-clause-jobs : goal.returns-clause-jobs
returns-clause-jobs g c =
    counts_on (g.J.Jobs.faults c.args.jobs.now) (g.J.Jobs.faults c.run_event.new.jobs) (g.J.Jobs.faults c.follow.new.jobs) c.in_ok-run_event.ensures.jobs
    c.in_ok-follow.ensures.jobs

pub returns-in_err-follow-clause-jobs : goal.returns-in_err-follow-clause-jobs
returns-in_err-follow-clause-jobs g c =
    counts_on (g.J.Jobs.faults c.args.jobs.now) (g.J.Jobs.faults c.run_event.new.jobs) (g.J.Jobs.faults c.follow.new.jobs) c.in_ok-run_event.ensures.jobs
    c.in_err-follow.ensures.jobs

pub returns-clause-done : goal.returns-clause-done
returns-clause-done g c =
    done_goes g.S.Screen.took c.args.event c.args.self.now _ _
    (around c.args.screen.now (g.K.Keeper.kept c.args.keeper.now) (g.J.Jobs.wanted c.args.jobs.now)) _ _ c.requires.going
    c.in_ok-run_event.ensures.done c.in_ok-follow.ensures.done

pub returns-in_err-run_event-clause-stops : goal.returns-in_err-run_event-clause-stops
returns-in_err-run_event-clause-stops g c =
    let p = err_from_is_err_and c.from_residual.result c.from_residual.ensures.1 in
    rw (p.1, p.2)
    (done_stops_first g.S.Screen.took g.S.Screen.missed c.in_err-run_event.field-0.0
    (Stands (g.J.Jobs.faults c.args.jobs.now) (g.J.Jobs.faults c.run_event.new.jobs)) c.args.event c.args.self.now c.run_event.new.self
    (around c.args.screen.now (g.K.Keeper.kept c.args.keeper.now) (g.J.Jobs.wanted c.args.jobs.now))
    (around c.run_event.new.screen (g.K.Keeper.kept c.run_event.new.keeper) (g.J.Jobs.wanted c.run_event.new.jobs)) c.requires.going
    c.in_err-run_event.ensures.stops)

pub returns-in_err-follow-clause-stops : goal.returns-in_err-follow-clause-stops
returns-in_err-follow-clause-stops g c =
    let p = err_from_is_err_and c.from_residual-in_err-follow.result c.from_residual-in_err-follow.ensures.1 in
    let first = g.J.Jobs.faults c.args.jobs.now in
    let mid = g.J.Jobs.faults c.run_event.new.jobs in
    let now = g.J.Jobs.faults c.follow.new.jobs in
    rw (p.1, p.2)
    (done_stops_behind g.S.Screen.took g.S.Screen.missed c.in_err-follow.field-0.0 (Stands mid now) (Stands first now) c.args.event c.args.self.now
    c.run_event.new.self c.follow.new.self
    (around c.args.screen.now (g.K.Keeper.kept c.args.keeper.now) (g.J.Jobs.wanted c.args.jobs.now))
    (around c.run_event.new.screen (g.K.Keeper.kept c.run_event.new.keeper) (g.J.Jobs.wanted c.run_event.new.jobs))
    (around c.follow.new.screen (g.K.Keeper.kept c.follow.new.keeper) (g.J.Jobs.wanted c.follow.new.jobs)) c.requires.going
    (stands_last first mid now c.in_ok-run_event.ensures.jobs c.in_err-follow.ensures.jobs) c.in_ok-run_event.ensures.done c.in_err-follow.ensures.stops)
