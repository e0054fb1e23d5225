use Rattle.std.proofs.Common.{◌≡◌, ◌==◌, ◌≤◌, ◌+◌, not, length, take}
use Rattle.std.specs.List.{suffix_len}
use Rattle.completers.proofs.suggesting.last_line.Given as goal

abbrev pub invariant-loop-start : goal.invariant-loop-start
invariant-loop-start l = record {
  within : l.start ≤ length l.doc.text;
  so_far : suffix_len (λ c. not (c == 10)) l.doc.text + l.start ≡ length l.doc.text + suffix_len (λ c. not (c == 10)) (take l.start l.doc.text);
}

abbrev pub decreases-loop-start : goal.decreases-loop-start
decreases-loop-start l = l.start
