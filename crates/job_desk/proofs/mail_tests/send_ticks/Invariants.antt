use Rattle.std.proofs.Common.{◌≡◌}
use Rattle.job_desk.specs.Letters.{IsOpen}
use Rattle.job_desk.proofs.mail_tests.send_ticks.Given as goal

abbrev pub invariant-loop-moment : goal.invariant-loop-moment
invariant-loop-moment g l = record {
  open_so_far : IsOpen l.sender.sent;
  same_room : l.sender.room ≡ l.initial.sender.room;
  same_number : l.sender.number ≡ l.initial.sender.number;
}
