-- Each further prompt is one of those that are left.
use Rattle.std.proofs.Common.{◌≡◌, ◌+◌, ◌-◌, true, false, refl, arith, rules}
use Rattle.std.proofs.lemmas.Result.{err_from_is_err_and}
use Rattle.session_core.specs.Next.{is_accepted}
use Rattle.prompt_run.specs.Course.{around}
use Rattle.prompt_run.specs.Wishes.{Stands}
use Rattle.prompt_run.proofs.CauseLemmas.{counts_on, stands_last}
use Rattle.prompt_run.proofs.CourseLemmas.{followed_all, followed_fault, followed_on, followed_stop}
use Rattle.prompt_run.specs.declared.runners.RunFault.TheVariants.{NoMemory}
use Rattle.prompt_run.proofs.runners.Runner.follow.Goals as goal

pub returns-then-not-has_accepted-clause-done : goal.returns-then-not-has_accepted-clause-done
returns-then-not-has_accepted-clause-done g c =
    let is : is_accepted c.loop-left.self.session.outcome ≡ false = search rules in
    followed_all g.S.Screen.took c.args.self.now c.loop-left.self
    (around c.args.screen.now (g.K.Keeper.kept c.args.keeper.now) (g.J.Jobs.wanted c.args.jobs.now))
    (around c.loop-left.screen (g.K.Keeper.kept c.loop-left.keeper) (g.J.Jobs.wanted c.loop-left.jobs)) c.loop-left.left c.loop-left.invariant.so_far (λ some. is)

pub returns-clause-done : goal.returns-clause-done
returns-clause-done g c =
    followed_all g.S.Screen.took c.args.self.now c.loop-left.self
    (around c.args.screen.now (g.K.Keeper.kept c.args.keeper.now) (g.J.Jobs.wanted c.args.jobs.now))
    (around c.loop-left.screen (g.K.Keeper.kept c.loop-left.keeper) (g.J.Jobs.wanted c.loop-left.jobs)) c.loop-left.left c.loop-left.invariant.so_far
    (λ some. absurd (omega (arith, some, c.loop-left-test.false)))

pub returns-in_err-run_event-clause-jobs : goal.returns-in_err-run_event-clause-jobs
returns-in_err-run_event-clause-jobs g c =
    counts_on (g.J.Jobs.faults c.args.jobs.now) (g.J.Jobs.faults c.loop-left.jobs) (g.J.Jobs.faults c.run_event.new.jobs) c.loop-left.invariant.counts
    c.in_err-run_event.ensures.jobs

pub returns-in_err-again-clause-stops : goal.returns-in_err-again-clause-stops
returns-in_err-again-clause-stops g c =
    let p = err_from_is_err_and c.from_residual.result c.from_residual.ensures.1 in
    rw (p.1, p.2)
    (followed_stop g.S.Screen.took g.S.Screen.missed NoMemory (Stands (g.J.Jobs.faults c.args.jobs.now) (g.J.Jobs.faults c.loop-left.jobs)) c.args.self.now
    c.loop-left.self c.loop-left.self
    (around c.args.screen.now (g.K.Keeper.kept c.args.keeper.now) (g.J.Jobs.wanted c.args.jobs.now))
    (around c.loop-left.screen (g.K.Keeper.kept c.loop-left.keeper) (g.J.Jobs.wanted c.loop-left.jobs)) c.loop-left.left c.loop-left.invariant.so_far refl refl)

pub returns-in_err-run_event-clause-stops : goal.returns-in_err-run_event-clause-stops
returns-in_err-run_event-clause-stops g c =
    let p = err_from_is_err_and c.from_residual-in_err-run_event.result c.from_residual-in_err-run_event.ensures.1 in
    let is : is_accepted c.loop-left.self.session.outcome ≡ true = search rules in
    let left : c.loop-left.left ≡ c.loop-left.left - 1 + 1 = omega (arith, c.loop-left-test.true) in
    let first = g.J.Jobs.faults c.args.jobs.now in
    let mid = g.J.Jobs.faults c.loop-left.jobs in
    let now = g.J.Jobs.faults c.run_event.new.jobs in
    rw (p.1, p.2)
    (followed_fault g.S.Screen.took g.S.Screen.missed c.in_err-run_event.field-0.0 (Stands mid now) (Stands first now) c.args.self.now c.loop-left.self
    (record c.loop-left.self { session = c.again.new.self }) c.run_event.new.self
    (around c.args.screen.now (g.K.Keeper.kept c.args.keeper.now) (g.J.Jobs.wanted c.args.jobs.now))
    (around c.loop-left.screen (g.K.Keeper.kept c.loop-left.keeper) (g.J.Jobs.wanted c.loop-left.jobs))
    (around c.run_event.new.screen (g.K.Keeper.kept c.run_event.new.keeper) (g.J.Jobs.wanted c.run_event.new.jobs)) c.loop-left.left
    (c.loop-left.left - 1) c.loop-left.invariant.so_far left is
    (record { state = c.in_ok-again.ensures.again; shown = refl; repeat = refl; answers = refl; told = refl })
    (stands_last first mid now c.loop-left.invariant.counts c.in_err-run_event.ensures.jobs) c.in_err-run_event.ensures.stops)

pub loop-left-preserved : goal.loop-left-preserved
loop-left-preserved g c =
    let is : is_accepted c.loop-left.self.session.outcome ≡ true = search rules in
    let left : c.loop-left.left ≡ c.loop-left.left - 1 + 1 = omega (arith, c.loop-left-test.true) in
    record {
      may = c.in_ok-run_event.ensures.again;
      screen_later = omega (arith, c.loop-left.invariant.screen_later, c.in_ok-run_event.ensures.screen.later);
      keeper_later = omega (arith, c.loop-left.invariant.keeper_later, c.in_ok-run_event.ensures.keeper.later);
      counts = counts_on (g.J.Jobs.faults c.args.jobs.now) (g.J.Jobs.faults c.loop-left.jobs) (g.J.Jobs.faults c.run_event.new.jobs)
          c.loop-left.invariant.counts c.in_ok-run_event.ensures.jobs;
      so_far = followed_on g.S.Screen.took c.args.self.now c.loop-left.self (record c.loop-left.self { session = c.again.new.self }) c.run_event.new.self
          (around c.args.screen.now (g.K.Keeper.kept c.args.keeper.now) (g.J.Jobs.wanted c.args.jobs.now))
          (around c.loop-left.screen (g.K.Keeper.kept c.loop-left.keeper) (g.J.Jobs.wanted c.loop-left.jobs))
          (around c.run_event.new.screen (g.K.Keeper.kept c.run_event.new.keeper) (g.J.Jobs.wanted c.run_event.new.jobs)) c.loop-left.left
          (c.loop-left.left - 1) c.loop-left.invariant.so_far left is
          (record { state = c.in_ok-again.ensures.again; shown = refl; repeat = refl; answers = refl; told = refl }) c.in_ok-run_event.ensures.done;
    }
