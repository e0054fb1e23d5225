use Rattle.std.proofs.Common.{◌≡◌, ◌++◌, length}
use Rattle.completers.specs.Gathered.{chosen}
use Rattle.completers.proofs.distinct.put_chosen.Given as goal

abbrev pub invariant-loop-item : goal.invariant-loop-item
invariant-loop-item l = record {
  len : length l.left ≡ length l.item-iterator.rest.items;
  so_far : l.items.items ++ chosen l.left l.item-iterator.rest.items
      ≡ l.initial.items.items ++ chosen l.choice l.initial.item-iterator.rest.items;
}
