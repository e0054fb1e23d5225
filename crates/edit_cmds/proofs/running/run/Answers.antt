-- The answer of a command is that of its row, and what is dropped.
use Rattle.edit_cmds.proofs.Fitting.{answers_of_run, origin_behind}
use Rattle.edit_cmds.proofs.running.run.Goals as goal

pub returns-clause-origin : goal.returns-clause-origin
returns-clause-origin c = origin_behind c.number.result c.keeps_of-keeps.result c.do_fitting.new.state c.leave_behind.new.state c.leave_behind.ensures c.in_ok-done.ensures.origin

pub returns-clause-done : goal.returns-clause-done
returns-clause-done c =
    answers_of_run c.args.command c.args.key.now c.in_ok-done.done c.answer_with.result c.drops-dropped.result c.number.result c.keeps_of-keeps.result c.args.state.now c.do_fitting.new.state c.leave_behind.new.state
    c.keeps_of-keeps.ensures c.in_ok-done.ensures.state c.leave_behind.ensures c.answer_with.ensures c.in_ok-done.ensures.done c.drops-dropped.ensures
