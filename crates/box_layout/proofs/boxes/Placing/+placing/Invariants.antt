use Rattle.std.proofs.Common.{◌≡◌, ◌+◌, ◌-◌, ◌*◌, ◌≤◌, filter, drop, length, sum}
use Rattle.box_layout.specs.declared.nodes.Node.{Node}
use Rattle.box_layout.specs.Areas.{room_of}
use Rattle.box_layout.specs.Asked.{asked}
use Rattle.box_layout.specs.Children.{EachChild, HasFewChildren}
use Rattle.box_layout.specs.Listing.{tops, IsListing}
use Rattle.box_layout.proofs.Turns.{Begun}
use Rattle.box_layout.proofs.boxes.Placing.+placing.Given as goal

-- the nodes inside, and with as many of them the order of the calls
abbrev pub decreases-place_part : goal.decreases-place_part
decreases-place_part l = 4 * length l.inner.now + 4

abbrev pub decreases-place_in : goal.decreases-place_in
decreases-place_in l = 4 * length l.inner.now + 3

abbrev pub decreases-place_split : goal.decreases-place_split
decreases-place_split l = 4 * length l.children.now + 2

abbrev pub decreases-place_parts : goal.decreases-place_parts
decreases-place_parts l = 4 * length l.children.now + 1

-- the children so far are placed, and the sizes and the room left are those of the children left
abbrev pub invariant-place_parts-loop-at : goal.invariant-place_parts-loop-at
invariant-place_parts-loop-at l = record {
  within : l.at ≤ length l.children;
  listing : IsListing (drop l.at l.children);
  few : EachChild Node HasFewChildren (tops (drop l.at l.children));
  one_each : length (drop l.next l.sizes) ≡ length (filter (λ x. (asked x).present) (tops (drop l.at l.children)));
  room : l.before + sum (drop l.next l.sizes) ≤ room_of l.across l.area;
  begun : Begun l.self.done l.across l.area (tops l.children) l.sizes (tops (drop l.at l.children)) l.next l.before l.initial.placed l.placed;
}

abbrev pub decreases-place_parts-loop-at : goal.decreases-place_parts-loop-at
decreases-place_parts-loop-at l = length l.children - l.at
