use Rattle.std.proofs.Common.{◌≡◌}
use Rattle.job_desk.proofs.mail_tests.take_all.Given as goal

abbrev pub invariant-loop : goal.invariant-loop
invariant-loop g l = l.end.room ≡ l.fn.end.room
