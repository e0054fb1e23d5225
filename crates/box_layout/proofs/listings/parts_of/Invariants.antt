use Rattle.std.proofs.Common.{◌≡◌, ◌++◌, ◌-◌, ◌≤◌, map, filter, drop, length}
use Rattle.box_layout.specs.Asked.{asked, wanted}
use Rattle.box_layout.specs.Listing.{tops, IsListing}
use Rattle.box_layout.proofs.listings.parts_of.Given as goal

-- what is found so far and what the nodes left ask for is all
abbrev pub invariant-loop-at : goal.invariant-loop-at
invariant-loop-at l = record {
  within : l.at ≤ length l.listed;
  listing : IsListing (drop l.at l.listed);
  found : l.parts.items ++ map (wanted l.across) (filter (λ child. (asked child).present) (tops (drop l.at l.listed))) ≡ map (wanted l.across) (filter (λ child. (asked child).present) (tops l.listed));
}

abbrev pub decreases-loop-at : goal.decreases-loop-at
decreases-loop-at l = length l.listed - l.at
