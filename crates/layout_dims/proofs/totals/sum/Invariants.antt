use Rattle.std.proofs.Common.{◌≡◌, ◌≤◌, take, min}
use Rattle.std.specs.Prelude.{sum_by}
use Rattle.layout_dims.proofs.totals.sum.Given as goal

-- the sums of the parts so far, each at most 1,000,000, and in order as those of each part are
abbrev pub invariant-loop-part : goal.invariant-loop-part
invariant-loop-part l = record {
  minima : l.min ≡ min 1000000 (sum_by (λ p. p.minimum) (take l.part-index l.parts));
  maxima : l.max ≡ min 1000000 (sum_by (λ p. p.maximum) (take l.part-index l.parts));
  preferred : l.preferred ≡ min 1000000 (sum_by (λ p. p.preferred) (take l.part-index l.parts));
  above_minimum : l.min ≤ l.preferred;
  below_maximum : l.preferred ≤ l.max;
}
