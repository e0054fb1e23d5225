-- The run over the events of the inbox, from its first event on.
use Rattle.std.proofs.Common.{◌≡◌, true, false, sym, ◌∙◌, arith, rules}
use Rattle.std.proofs.lemmas.Result.{err_from_is_err_and}
use Rattle.session_core.specs.State.{has_ended}
use Rattle.prompt_run.specs.Course.{around}
use Rattle.prompt_run.specs.Wishes.{Stands}
use Rattle.prompt_run.specs.Faults.{inbox_fault}
use Rattle.prompt_run.proofs.CauseLemmas.{counts_on, stands_last}
use Rattle.prompt_run.proofs.InboxLemmas.{has_run_first, has_run_more, inbox_left, ran_through, refused_event, stopped_event, stopped_first}
use Rattle.prompt_run.proofs.prompts.run_to_end.Goals as goal

pub returns-in_err-take-clause-ran : goal.returns-in_err-take-clause-ran
returns-in_err-take-clause-ran g c =
    let p = err_from_is_err_and c.from_residual.result c.from_residual.ensures.1 in
    rw (p.1, p.2)
    (stopped_first g.I.Inbox.heard g.S.Screen.took g.S.Screen.missed (Stands (g.J.Jobs.faults c.args.jobs.now) (g.J.Jobs.faults c.take.new.jobs))
    c.args.runner.now c.take.new.self c.args.inbox.now
    (around c.args.screen.now (g.K.Keeper.kept c.args.keeper.now) (g.J.Jobs.wanted c.args.jobs.now))
    (around c.take.new.screen (g.K.Keeper.kept c.take.new.keeper) (g.J.Jobs.wanted c.take.new.jobs)) c.in_err-take.field-0.0 c.requires.begun
    c.in_err-take.ensures.stops)

pub loop-init : goal.loop-init
loop-init g c = record {
  may = c.in_ok-take.ensures.again;
  inbox_later = omega arith;
  screen_later = c.in_ok-take.ensures.screen.later;
  keeper_later = c.in_ok-take.ensures.keeper.later;
  counts = c.in_ok-take.ensures.jobs;
  run = has_run_first g.I.Inbox.heard g.S.Screen.took c.args.runner.now c.take.new.self c.args.inbox.now
      (around c.args.screen.now (g.K.Keeper.kept c.args.keeper.now) (g.J.Jobs.wanted c.args.jobs.now))
      (around c.take.new.screen (g.K.Keeper.kept c.take.new.keeper) (g.J.Jobs.wanted c.take.new.jobs)) c.requires.begun c.in_ok-take.ensures.done;
}

pub returns-in_err-event-clause-ran : goal.returns-in_err-event-clause-ran
returns-in_err-event-clause-ran g c =
    let p = err_from_is_err_and c.from_residual-in_err-event.result c.from_residual-in_err-event.ensures.1 in
    let on : has_ended c.loop.runner.session ≡ false = sym c.ended.ensures.ended ∙ c.if-ended.false in
    let refusal = c.in_err-event.field-0.0 in
    rw (p.1, p.2)
    (refused_event g.I.Inbox.heard g.S.Screen.took g.S.Screen.missed (Stands (g.J.Jobs.faults c.args.jobs.now) (g.J.Jobs.faults c.loop.jobs))
    c.args.runner.now.session c.loop.runner refusal c.args.inbox.now c.loop.inbox c.next-in-loop.new.self
    (around c.args.screen.now (g.K.Keeper.kept c.args.keeper.now) (g.J.Jobs.wanted c.args.jobs.now))
    (around c.loop.screen (g.K.Keeper.kept c.loop.keeper) (g.J.Jobs.wanted c.loop.jobs)) (inbox_fault refusal)
    c.requires.begun.going c.loop.invariant.run on c.in_err-event.ensures.heard (inbox_left g.S.Screen.missed refusal c.loop.screen))

pub returns-then-ended-clause-ran : goal.returns-then-ended-clause-ran
returns-then-ended-clause-ran g c =
    let over : has_ended c.loop.runner.session ≡ true = sym c.ended.ensures.ended ∙ c.if-ended.true in
    ran_through g.I.Inbox.heard g.S.Screen.took g.S.Screen.missed (Stands (g.J.Jobs.faults c.args.jobs.now) (g.J.Jobs.faults c.loop.jobs))
    c.args.runner.now.session c.loop.runner c.args.inbox.now c.loop.inbox
    (around c.args.screen.now (g.K.Keeper.kept c.args.keeper.now) (g.J.Jobs.wanted c.args.jobs.now))
    (around c.loop.screen (g.K.Keeper.kept c.loop.keeper) (g.J.Jobs.wanted c.loop.jobs)) _ c.loop.invariant.run over (search rules)

pub loop-preserved : goal.loop-preserved
loop-preserved g c =
    let on : has_ended c.loop.runner.session ≡ false = sym c.ended.ensures.ended ∙ c.if-ended.false in
    record {
      may = c.in_ok-take-2.ensures.again;
      inbox_later = omega (arith, c.loop.invariant.inbox_later, c.in_ok-event.ensures.cause.later);
      screen_later = omega (arith, c.loop.invariant.screen_later, c.in_ok-take-2.ensures.screen.later);
      keeper_later = omega (arith, c.loop.invariant.keeper_later, c.in_ok-take-2.ensures.keeper.later);
      counts = counts_on (g.J.Jobs.faults c.args.jobs.now) (g.J.Jobs.faults c.loop.jobs) (g.J.Jobs.faults c.take-in-loop.new.jobs)
          c.loop.invariant.counts c.in_ok-take-2.ensures.jobs;
      run = has_run_more g.I.Inbox.heard g.S.Screen.took c.args.runner.now.session c.loop.runner c.take-in-loop.new.self c.in_ok-event.event
          c.args.inbox.now c.loop.inbox c.next-in-loop.new.self
          (around c.args.screen.now (g.K.Keeper.kept c.args.keeper.now) (g.J.Jobs.wanted c.args.jobs.now))
          (around c.loop.screen (g.K.Keeper.kept c.loop.keeper) (g.J.Jobs.wanted c.loop.jobs))
          (around c.take-in-loop.new.screen (g.K.Keeper.kept c.take-in-loop.new.keeper) (g.J.Jobs.wanted c.take-in-loop.new.jobs)) c.loop.invariant.run on
          c.in_ok-event.ensures.heard c.in_ok-take-2.ensures.done;
    }

pub returns-in_err-take-2-clause-ran : goal.returns-in_err-take-2-clause-ran
returns-in_err-take-2-clause-ran g c =
    let p = err_from_is_err_and c.from_residual-in_err-take-2.result c.from_residual-in_err-take-2.ensures.1 in
    let on : has_ended c.loop.runner.session ≡ false = sym c.ended.ensures.ended ∙ c.if-ended.false in
    let first = g.J.Jobs.faults c.args.jobs.now in
    let mid = g.J.Jobs.faults c.loop.jobs in
    let now = g.J.Jobs.faults c.take-in-loop.new.jobs in
    rw (p.1, p.2)
    (stopped_event g.I.Inbox.heard g.S.Screen.took g.S.Screen.missed (Stands mid now) (Stands first now) c.args.runner.now.session c.loop.runner
    c.take-in-loop.new.self c.in_ok-event.event c.args.inbox.now c.loop.inbox c.next-in-loop.new.self
    (around c.args.screen.now (g.K.Keeper.kept c.args.keeper.now) (g.J.Jobs.wanted c.args.jobs.now))
    (around c.loop.screen (g.K.Keeper.kept c.loop.keeper) (g.J.Jobs.wanted c.loop.jobs))
    (around c.take-in-loop.new.screen (g.K.Keeper.kept c.take-in-loop.new.keeper) (g.J.Jobs.wanted c.take-in-loop.new.jobs)) c.in_err-take-2.field-0.0
    c.requires.begun.going c.loop.invariant.run on c.in_ok-event.ensures.heard (stands_last first mid now c.loop.invariant.counts c.in_err-take-2.ensures.jobs)
    c.in_err-take-2.ensures.stops)
