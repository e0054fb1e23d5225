use Rattle.std.proofs.Common.{◌≡◌, take}
use Rattle.completers.specs.Marked.{marked}
use Rattle.completers.proofs.matching.write_marked.Given as goal

abbrev pub invariant-loop-c : goal.invariant-loop-c
invariant-loop-c l = l.bytes.items ≡ marked (take l.c-index l.text)
