-- All places passed by are of the class.
use Rattle.std.proofs.Common.{◌≡◌, ℕ, ◌<◌, ◌≤◌, false}
use Rattle.vi_keys.specs.Runs.{differs}
use Rattle.vi_keys.proofs.runs.run_end.Given as goal

abbrev pub invariant-loop-at : goal.invariant-loop-at
invariant-loop-at l = (k : ℕ) → l.from ≤ k → k < l.at → differs l.class l.doc.text k ≡ false
