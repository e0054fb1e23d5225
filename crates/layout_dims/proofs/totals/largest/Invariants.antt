use Rattle.std.proofs.Common.{◌≡◌, ◌≤◌, take, map}
use Rattle.layout_dims.specs.Numbers.{greatest}
use Rattle.layout_dims.proofs.totals.largest.Given as goal

-- the greatest of the parts so far, in order as those of each part are
abbrev pub invariant-loop-part : goal.invariant-loop-part
invariant-loop-part l = record {
  minima : l.largest_min ≡ greatest (map (λ p. p.minimum) (take l.part-index l.parts));
  maxima : l.largest_max ≡ greatest (map (λ p. p.maximum) (take l.part-index l.parts));
  preferred : l.largest_preferred ≡ greatest (map (λ p. p.preferred) (take l.part-index l.parts));
  above_minimum : l.largest_min ≤ l.largest_preferred;
  below_maximum : l.largest_preferred ≤ l.largest_max;
  in_range : l.largest_max ≤ 1000000;
}
