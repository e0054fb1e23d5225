use Rattle.std.proofs.Common.{◌≡◌, ℕ, ◌+◌, ◌<◌, Some, false, reverse, take}
use Rattle.std.specs.Option.{is_none}
use Rattle.completers.specs.Pairs.{unclosed}
use Rattle.completers.proofs.brackets.bracket_fault.Given as goal

abbrev pub invariant-loop-place : goal.invariant-loop-place
invariant-loop-place l = record {
  so_far : unclosed (take l.place l.doc.text) ≡ Some (reverse l.opened.items);
  before : (k : ℕ) → k < l.place → is_none (unclosed (take (k + 1) l.doc.text)) ≡ false;
}
