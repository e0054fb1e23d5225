use Rattle.std.proofs.Common.{drop}
use Rattle.completers.specs.Gathered.{Gathering}
use Rattle.completers.proofs.listing.all_items.Given as goal

abbrev pub invariant-loop-node : goal.invariant-loop-node
invariant-loop-node l = Gathering l.doc (drop l.node-index l.node-items) l.completer l.items.items l.starts.items
