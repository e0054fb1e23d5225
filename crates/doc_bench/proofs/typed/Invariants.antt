use Rattle.std.proofs.Common.{◌≡◌, length}
use Rattle.doc_bench.proofs.typed.Given as goal

abbrev pub invariant-loop-number : goal.invariant-loop-number
invariant-loop-number l = length l.text ≡ l.number
