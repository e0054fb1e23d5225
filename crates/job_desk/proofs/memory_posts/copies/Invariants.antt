use Rattle.std.proofs.Common.{◌≡◌, take}
use Rattle.job_desk.proofs.memory_posts.copies.Given as goal

abbrev pub invariant-loop-request : goal.invariant-loop-request
invariant-loop-request l = l.queue.items ≡ take l.request-index l.requests
