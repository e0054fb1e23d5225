use Rattle.std.proofs.Common.{◌≡◌, take}
use Rattle.job_desk.proofs.memory_posts.queue_of.Given as goal

abbrev pub invariant-loop-answer : goal.invariant-loop-answer
invariant-loop-answer l = l.queue.items ≡ take l.answer-index l.answers
