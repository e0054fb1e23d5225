-- What one event does, and where it stops.
use Rattle.std.proofs.Common.{refl, ap, Err}
use Rattle.std.proofs.lemmas.Result.{err_from_is_err_and}
use Rattle.prompt_run.specs.Course.{around}
use Rattle.prompt_run.specs.Wishes.{Stands}
use Rattle.prompt_run.proofs.CauseLemmas.{counted_once, counts_once, counts_same}
use Rattle.prompt_run.proofs.CourseLemmas.{came_more, entry_left, event_stops_before, event_stops_behind, lines_whole, no_entry_left, no_line_left, screen_left}
use Rattle.prompt_run.specs.declared.runners.RunFault.TheVariants.{NoMemory}
use Rattle.prompt_run.proofs.runners.Runner.run_event.Goals as goal

pub returns-clause-done : goal.returns-clause-done
returns-clause-done g c =
    came_more g.S.Screen.took c.args.event c.args.self.now _
    (around c.args.screen.now (g.K.Keeper.kept c.args.keeper.now) (g.J.Jobs.wanted c.args.jobs.now)) _ (record {
      turn = record {
        going = c.in_ok-advance.ensures.going;
        state = c.in_ok-advance.ensures.next;
        size = c.in_ok-advance.ensures.size;
        gives = c.in_ok-advance.ensures.gives;
        shown = c.in_ok-advance.ensures.shown;
      };
      repeat = refl;
      answers = c.in_ok-keep_answer.ensures.kept;
      kept = c.in_ok-keep_entry.ensures.kept;
      held = c.in_ok-tell.ensures.held;
      told = c.in_ok-tell.ensures.holds;
    })

pub returns-clause-jobs : goal.returns-clause-jobs
returns-clause-jobs g c = counts_same (g.J.Jobs.faults c.args.jobs.now) (g.J.Jobs.faults c.tell.new.jobs) c.in_ok-tell.ensures.same

pub returns-in_err-tell-clause-jobs : goal.returns-in_err-tell-clause-jobs
returns-in_err-tell-clause-jobs g c = counts_once (g.J.Jobs.faults c.args.jobs.now) (g.J.Jobs.faults c.tell.new.jobs) c.in_err-tell.ensures.counted

pub returns-in_err-keep_answer-clause-jobs : goal.returns-in_err-keep_answer-clause-jobs
returns-in_err-keep_answer-clause-jobs g c =
    counts_same (g.J.Jobs.faults c.args.jobs.now) (g.J.Jobs.faults c.tell.new.jobs) c.in_ok-tell.ensures.same

pub returns-in_err-keep_entry-clause-jobs : goal.returns-in_err-keep_entry-clause-jobs
returns-in_err-keep_entry-clause-jobs g c =
    counts_same (g.J.Jobs.faults c.args.jobs.now) (g.J.Jobs.faults c.tell.new.jobs) c.in_ok-tell.ensures.same

pub returns-in_err-advance-clause-stops : goal.returns-in_err-advance-clause-stops
returns-in_err-advance-clause-stops g c =
    let p = err_from_is_err_and c.from_residual.result c.from_residual.ensures.1 in
    rw (p.1, p.2)
    (event_stops_before g.S.Screen.took g.S.Screen.missed c.in_err-advance.field-0.0
    (Stands (g.J.Jobs.faults c.args.jobs.now) (g.J.Jobs.faults c.args.jobs.now)) c.args.event c.args.self.now c.args.self.now
    (around c.args.screen.now (g.K.Keeper.kept c.args.keeper.now) (g.J.Jobs.wanted c.args.jobs.now))
    (around c.advance.new.screen (g.K.Keeper.kept c.args.keeper.now) (g.J.Jobs.wanted c.args.jobs.now)) c.in_err-advance.ensures.missed refl refl refl)

pub returns-in_err-tell-clause-stops : goal.returns-in_err-tell-clause-stops
returns-in_err-tell-clause-stops g c =
    let p = err_from_is_err_and c.from_residual-in_err-tell.result c.from_residual-in_err-tell.ensures.1 in
    let turn = c.in_ok-advance.ensures in
    rw (p.1, p.2)
    (event_stops_behind g.S.Screen.took g.S.Screen.missed NoMemory (Stands (g.J.Jobs.faults c.args.jobs.now) (g.J.Jobs.faults c.tell.new.jobs)) c.args.event
    c.args.self.now (record c.args.self.now { session = c.advance.new.session; shown = c.advance.new.shown; told = c.tell.new.self })
    (around c.args.screen.now (g.K.Keeper.kept c.args.keeper.now) (g.J.Jobs.wanted c.args.jobs.now))
    (around c.advance.new.screen (g.K.Keeper.kept c.args.keeper.now) (g.J.Jobs.wanted c.tell.new.jobs))
    (record {
      turn = record { going = turn.going; state = turn.next; size = turn.size; gives = turn.gives; shown = turn.shown };
      screen = refl;
      lines = no_line_left _ _ _ refl;
      kept = no_entry_left _ _;
      told = λ still. absurd (counted_once (g.J.Jobs.faults c.args.jobs.now) (g.J.Jobs.faults c.tell.new.jobs) c.in_err-tell.ensures.counted still);
    }))

pub returns-in_err-keep_answer-clause-stops : goal.returns-in_err-keep_answer-clause-stops
returns-in_err-keep_answer-clause-stops g c =
    let p = err_from_is_err_and c.from_residual-in_err-keep_answer.result c.from_residual-in_err-keep_answer.ensures.1 in
    let turn = c.in_ok-advance.ensures in
    rw (p.1, p.2)
    (event_stops_behind g.S.Screen.took g.S.Screen.missed NoMemory (Stands (g.J.Jobs.faults c.args.jobs.now) (g.J.Jobs.faults c.tell.new.jobs)) c.args.event
    c.args.self.now
    (record c.args.self.now { session = c.advance.new.session; shown = c.advance.new.shown; told = c.tell.new.self; answers = c.keep_answer.new.answers })
    (around c.args.screen.now (g.K.Keeper.kept c.args.keeper.now) (g.J.Jobs.wanted c.args.jobs.now))
    (around c.advance.new.screen (g.K.Keeper.kept c.args.keeper.now) (g.J.Jobs.wanted c.tell.new.jobs))
    (record {
      turn = record { going = turn.going; state = turn.next; size = turn.size; gives = turn.gives; shown = turn.shown };
      screen = refl;
      lines = no_line_left _ _ _ c.in_err-keep_answer.ensures.same;
      kept = no_entry_left _ _;
      told = λ still. c.in_ok-tell.ensures.holds;
    }))

pub returns-in_err-keep_entry-clause-stops : goal.returns-in_err-keep_entry-clause-stops
returns-in_err-keep_entry-clause-stops g c =
    let turn = c.in_ok-advance.ensures in
    let fault = c.in_err-keep_entry.field-0.0 in
    let only = c.in_err-keep_entry.ensures.only in
    let p = err_from_is_err_and c.from_residual-in_err-keep_entry.result c.from_residual-in_err-keep_entry.ensures.1 in
    rw (p.1, p.2)
    (event_stops_behind g.S.Screen.took g.S.Screen.missed fault (Stands (g.J.Jobs.faults c.args.jobs.now) (g.J.Jobs.faults c.tell.new.jobs)) c.args.event
    c.args.self.now
    (record c.args.self.now { session = c.advance.new.session; shown = c.advance.new.shown; told = c.tell.new.self; answers = c.keep_answer.new.answers })
    (around c.args.screen.now (g.K.Keeper.kept c.args.keeper.now) (g.J.Jobs.wanted c.args.jobs.now))
    (around c.advance.new.screen (g.K.Keeper.kept c.keep_entry.new.keeper) (g.J.Jobs.wanted c.tell.new.jobs))
    (record {
      turn = record { going = turn.going; state = turn.next; size = turn.size; gives = turn.gives; shown = turn.shown };
      screen = screen_left g.S.Screen.missed fault _ (λ is. only.1 (ap Err is));
      lines = lines_whole fault _ _ c.in_ok-keep_answer.ensures.kept;
      kept = entry_left fault _ _ _ (λ is. only.0 (ap Err is)) (λ is. only.1 (ap Err is)) c.in_err-keep_entry.ensures.part;
      told = λ still. c.in_ok-tell.ensures.holds;
    }))
