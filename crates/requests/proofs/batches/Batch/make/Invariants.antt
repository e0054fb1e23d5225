use Rattle.std.proofs.Common.{◌≡◌, min}
use Rattle.requests.specs.Batching.{batch_count}
use Rattle.requests.proofs.batches.Batch.make.Given as goal

abbrev pub invariant-loop : goal.invariant-loop
invariant-loop l = record {
  same : l.answer.request ≡ l.request;
  given : l.answer.given ≡ min l.counter (batch_count l.request);
}
