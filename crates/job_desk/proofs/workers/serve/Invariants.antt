use Rattle.std.proofs.Common.{◌≡◌, false, []}
use Rattle.job_desk.specs.Letters.{IsOpen}
use Rattle.job_desk.specs.Answering.{Served, at_work}
use Rattle.job_desk.proofs.workers.serve.Given as goal

abbrev pub invariant-loop : goal.invariant-loop
invariant-loop g l = record {
  served : Served (at_work (g.P.Post.seen l.fn.post) (g.G.Gate.passed l.fn.gate) l.fn.mail) (at_work (g.P.Post.seen l.post) (g.G.Gate.passed l.gate) l.mail) false [];
  shut : (g.P.Post.seen l.post).shut ≡ (g.P.Post.seen l.fn.post).shut;
  is_open : IsOpen l.mail.sent;
}
