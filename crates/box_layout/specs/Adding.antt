-- What a contract sees of placing a part of a layout behind what was placed before.
use Rattle.std.specs.Prelude.{◌≡◌, ℕ, Bool, true, false, zero, suc, List, [], ◌++◌, Option, None, Some}
use Rattle.box_layout.specs.declared.areas.Area.{Area}
use Rattle.box_layout.specs.declared.nodes.Node.{Node}
use Rattle.box_layout.specs.Areas.{part_of}
use Rattle.box_layout.specs.Boxes.{Boxes}
use Rattle.box_layout.specs.Placed.{PlacedFields, AllInside}

-- a part that means this in an area has added its panes, each inside the area, or has told that a division in it has too little room
abbrev pub Adds : (Option (List PlacedFields) → Type 0) → Area → List PlacedFields → List PlacedFields → Bool → Type 0
Adds means area before after true = (those : List PlacedFields) × (after ≡ before ++ those) × means (Some those) × AllInside area those
Adds means area before after false = means None

-- what a child of a split gives in its part of the area; one of size 0 gives nothing
abbrev pub PartGives : Bool → Bool → Area → Node → ℕ → ℕ → Option (List PlacedFields) → Type 0
PartGives done across area child before zero answer = answer ≡ Some []
PartGives done across area child before (suc less) answer = Boxes done child (part_of across area before (suc less)) answer
