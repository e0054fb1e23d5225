use Rattle.std.proofs.Common.{◌∙◌, arith}
use Rattle.requests.proofs.CuttingLemmas.{next_numbered}
use Rattle.requests.proofs.batches.Batch.make.Goals as goal

pub returns : goal.returns
returns c =
    c.in_ok-batch.ensures.batch
    ∙ next_numbered c.args.request.now c.loop.answer.request c.loop.answer.given c.loop.counter c.args.number c.loop.invariant.same c.loop.invariant.given (omega arith)
