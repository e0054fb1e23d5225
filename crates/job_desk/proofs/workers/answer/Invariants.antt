use Rattle.std.proofs.Common.{◌≡◌, ◌+◌, ◌<◌}
use Rattle.requests.specs.Batching.{batch_count}
use Rattle.job_desk.specs.Letters.{IsOpen}
use Rattle.job_desk.specs.Answering.{answers}
use Rattle.job_desk.specs.Ends.{sends_more}
use Rattle.job_desk.specs.Gates.{passings}
use Rattle.job_desk.specs.Posts.{told_more, asked_more}
use Rattle.job_desk.proofs.workers.answer.Given as goal

abbrev pub invariant-loop-number : goal.invariant-loop-number
invariant-loop-number g l = record {
  post : g.P.Post.seen l.post ≡ asked_more (g.P.Post.seen l.fn.post) (l.number + 1);
  gate : g.G.Gate.passed l.gate ≡ told_more (g.G.Gate.passed l.fn.gate) (passings l.fn.request (l.number + 1));
  sent : l.mail ≡ sends_more l.fn.mail (answers l.fn.request l.number);
  request : l.answer.request ≡ l.fn.request;
  given : l.answer.given ≡ l.number;
  within : l.number < batch_count l.fn.request;
  is_open : IsOpen l.mail.sent;
}
