use Rattle.std.proofs.Common.{◌≡◌, ◌++◌, flat_map, take}
use Rattle.box_layout.specs.Listing.{listing}
use Rattle.box_layout.proofs.listings.+listing.Given as goal

-- the children so far and the nodes inside them are added
abbrev pub invariant-list_all-loop-child : goal.invariant-list_all-loop-child
invariant-list_all-loop-child l = l.listed.items ≡ l.initial.listed.items ++ flat_map listing (take l.child-index l.children)
