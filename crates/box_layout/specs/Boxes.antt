-- What a contract sees of the placing of a layout: the rectangles that a node gives in an area, by what each node inside it gives.
use Rattle.std.specs.Prelude.{◌≡◌, ◌⊎◌, ℕ, ◌+◌, ◌<◌, ◌≤◌, Bool, true, false, List, [], ◌∷◌, ◌++◌, zero, suc, filter, map, zip, sum, Option, None, Some, option_map}
use Rattle.layout_dims.specs.Division.{Division, minima_of}
use Rattle.layout_dims.specs.Numbers.{Numbers}
use Rattle.box_layout.specs.declared.areas.Area.{Area}
use Rattle.box_layout.specs.declared.nodes.Node.{Node}
use Rattle.box_layout.specs.declared.nodes.Node.TheOpen as layer
use Rattle.box_layout.specs.declared.nodes.Node.TheFolds.{rec-Node}
use Rattle.box_layout.specs.Areas.{room_of, part_of}
use Rattle.box_layout.specs.Asked.{asked, wanted}
use Rattle.box_layout.specs.Floats.{with_floats}
use Rattle.box_layout.specs.Placed.{PlacedFields, placed_at}

-- whether a list of panes at their places is the one that a node gives in an area; None says that a division inside has too little room
abbrev pub Meaning : Type 1
Meaning = Area → Option (List PlacedFields) → Type 0

-- the children of a split one after another, each with its size, where those before have taken so much of the area; one of size 0 gives nothing
abbrev pub InTurn : (X : Type 0) → (X → Meaning) → Bool → Area → List (X × ℕ) → ℕ → Option (List PlacedFields) → Type 0
InTurn X boxes across area [] before answer = answer ≡ Some []
InTurn X boxes across area ((child, zero) ∷ rest) before answer = InTurn X boxes across area rest before answer
InTurn X boxes across area ((child, suc less) ∷ rest) before answer =
    (boxes child (part_of across area before (suc less)) None × (answer ≡ None))
    ⊎ ((first : List PlacedFields) × boxes child (part_of across area before (suc less)) (Some first)
    × ((others : Option (List PlacedFields)) × InTurn X boxes across area rest (before + suc less) others
    × (answer ≡ option_map (λ more. first ++ more) others)))

-- what the children ask for that stand in a split, along it
abbrev pub asked_in : (X : Type 0) → (X → Node) → Bool → List X → List Numbers
asked_in X node across children = map (λ x. wanted across (node x)) (filter (λ x. (asked (node x)).present) children)

-- a split divides its area among the children that stand in it, where this is enough for what they need at least
abbrev pub SplitGives : (X : Type 0) → (X → Node) → (X → Meaning) → Bool → Bool → List X → Meaning
SplitGives X node boxes done across children area answer =
    ((room_of across area < sum (minima_of (asked_in X node across children))) × (answer ≡ None))
    ⊎ ((sum (minima_of (asked_in X node across children)) ≤ room_of across area)
    × ((sizes : List ℕ) × Division (asked_in X node across children) (room_of across area) done sizes
    × InTurn X boxes across area (zip (filter (λ x. (asked (node x)).present) children) sizes) 0 answer))

-- what a node gives in an area
abbrev pub gives : Bool → (X : Type 0) → (X → Node) → (X → Meaning) → layer.Node-F X → Meaning
gives done X node boxes (layer.HSplit children) = SplitGives X node boxes done false children
gives done X node boxes (layer.VSplit children) = SplitGives X node boxes done true children
gives done X node boxes (layer.Window pane) = λ area answer. answer ≡ Some (placed_at pane area ∷ [])
gives done X node boxes (layer.When true child) = boxes child
gives done X node boxes (layer.When false child) = λ area answer. answer ≡ Some []
gives done X node boxes (layer.FloatBox child floats) = λ area answer.
    (boxes child area None × (answer ≡ None))
    ⊎ ((under : List PlacedFields) × boxes child area (Some under) × (answer ≡ Some (with_floats area under floats)))

-- the panes of a node in an area, at their places and in the order in which they are painted
abbrev pub Boxes : Bool → Node → Area → Option (List PlacedFields) → Type 0
Boxes done = rec-Node Meaning (gives done)
