use Rattle.std.proofs.Common.{◌≡◌, ◌++◌, length, take, drop}
use Rattle.completers.specs.Gathered.{own_texts, chosen}
use Rattle.completers.proofs.DistinctLemmas.{known, unseen}
use Rattle.completers.proofs.distinct.first_with_text.Given as goal

abbrev pub invariant-loop-item : goal.invariant-loop-item
invariant-loop-item l = record {
  len : length l.choice.items ≡ l.item-index;
  so_far : chosen l.choice.items (take l.item-index l.listed) ++ unseen (known (λ key. key.now) l.seen.keys) (drop l.item-index l.listed)
      ≡ own_texts l.typed l.listed;
}
