-- What each kind of node gives in an area: the definition of boxes at each kind of node.
use Rattle.std.proofs.Common.{Bool, true, false, ℕ, zero, suc, ◌≡◌, ◌+◌, ◌<◌, ◌≤◌, ◌⊎◌, inl, inr, refl, sym, ◌∙◌, ap, subst, List, [], ◌∷◌, ◌++◌, map, filter, Option, None, Some, sum}
use Rattle.std.specs.Prelude.{zip, option_map}
use mathlib.Core.List.{map-map}
use Rattle.layout_dims.specs.Numbers.{Numbers}
use Rattle.layout_dims.specs.Division.{Division, minima_of}
use Rattle.box_layout.specs.declared.areas.Area.{Area}
use Rattle.box_layout.specs.declared.nodes.Float.{Float}
use Rattle.box_layout.specs.declared.nodes.Node.{Node}
use Rattle.box_layout.specs.declared.nodes.Node.TheOpen as layer
use Rattle.box_layout.specs.declared.nodes.Node.TheVariants.{HSplit, VSplit, Window, When, FloatBox, rolls-HSplit, rolls-VSplit, rolls-Window, rolls-When, rolls-FloatBox}
use Rattle.box_layout.specs.declared.nodes.Node.TheFolds.{rec-roll-Node, map-Node}
use Rattle.box_layout.specs.Areas.{room_of, part_of}
use Rattle.box_layout.specs.Asked.{wanted}
use Rattle.box_layout.specs.Boxes.{Boxes, Meaning, gives, InTurn, SplitGives}
use Rattle.box_layout.specs.Floats.{with_floats}
use Rattle.box_layout.specs.Panes.{PaneFields}
use Rattle.box_layout.specs.Placed.{PlacedFields, placed_at}
use Rattle.box_layout.proofs.Asking.{IsPresent}
use Rattle.box_layout.proofs.Lists.{filter_mapped}

-- children in turn are the nodes that they stand for in turn
turns_map : (X : Type 0) (v : X → Node) (k : Node → Meaning) (across : Bool) (area : Area) (xs : List X) (sizes : List ℕ) (before : ℕ) (answer : Option (List PlacedFields)) → InTurn X (λ x. k (v x)) across area (zip xs sizes) before answer ≡ InTurn Node k across area (zip (map v xs) sizes) before answer
turns_map X v k across area [] sizes before answer = refl
turns_map X v k across area (x ∷ xs) [] before answer = refl
turns_map X v k across area (x ∷ xs) (zero ∷ sizes) before answer = turns_map X v k across area xs sizes before answer
turns_map X v k across area (x ∷ xs) (suc less ∷ sizes) before answer = λ i.
    (k (v x) (part_of across area before (suc less)) None × (answer ≡ None))
    ⊎ ((first : List PlacedFields) × k (v x) (part_of across area before (suc less)) (Some first)
    × ((others : Option (List PlacedFields)) × turns_map X v k across area xs sizes (before + suc less) others i
    × (answer ≡ option_map (λ more. first ++ more) others)))

-- a split of what children ask for and of what they give in turn
abbrev Splits : Bool → Bool → Area → Option (List PlacedFields) → List Numbers → (List ℕ → Type 0) → Type 0
Splits done across area answer parts turns =
    ((room_of across area < sum (minima_of parts)) × (answer ≡ None))
    ⊎ ((sum (minima_of parts) ≤ room_of across area)
    × ((sizes : List ℕ) × Division parts (room_of across area) done sizes × turns sizes))

split_map : (X : Type 0) (v : X → Node) (k : Node → Meaning) (done across : Bool) (xs : List X) → SplitGives X v (λ x. k (v x)) done across xs ≡ SplitGives Node (λ y. y) k done across (map v xs)
split_map X v k done across xs = λ i area answer.
    let kept = filter_mapped IsPresent v xs in
    let parts : map (λ x. wanted across (v x)) (filter (λ x. IsPresent (v x)) xs) ≡ map (wanted across) (filter IsPresent (map v xs)) =
    sym (map-map (wanted across) v (filter (λ x. IsPresent (v x)) xs)) ∙ ap (map (wanted across)) (sym kept) in
    let turns : (sizes : List ℕ) → InTurn X (λ x. k (v x)) across area (zip (filter (λ x. IsPresent (v x)) xs) sizes) 0 answer ≡ InTurn Node k across area (zip (filter IsPresent (map v xs)) sizes) 0 answer =
    λ sizes. turns_map X v k across area (filter (λ x. IsPresent (v x)) xs) sizes 0 answer ∙ ap (λ ys. InTurn Node k across area (zip ys sizes) 0 answer) (sym kept) in
    Splits done across area answer (parts i) (λ sizes. turns sizes i)

natural : (done : Bool) (X : Type 0) (v : X → Node) (k : Node → Meaning) (x : layer.Node-F X) → gives done X v (λ p. k (v p)) x ≡ gives done Node (λ y. y) k (map-Node X Node v x)
natural done X v k (layer.HSplit children) = split_map X v k done false children
natural done X v k (layer.VSplit children) = split_map X v k done true children
natural done X v k (layer.Window pane) = refl
natural done X v k (layer.When true child) = refl
natural done X v k (layer.When false child) = refl
natural done X v k (layer.FloatBox child floats) = refl

-- what the definition gives at each kind of node
pub boxes_HSplit : (done : Bool) (children : List Node) → Boxes done (HSplit children) ≡ SplitGives Node (λ y. y) (Boxes done) done false children
boxes_HSplit done children = ap (Boxes done) (sym (rolls-HSplit children)) ∙ rec-roll-Node Meaning (gives done) (natural done) (layer.HSplit children)

pub boxes_VSplit : (done : Bool) (children : List Node) → Boxes done (VSplit children) ≡ SplitGives Node (λ y. y) (Boxes done) done true children
boxes_VSplit done children = ap (Boxes done) (sym (rolls-VSplit children)) ∙ rec-roll-Node Meaning (gives done) (natural done) (layer.VSplit children)

pub boxes_Window : (done : Bool) (pane : PaneFields) → Boxes done (Window pane) ≡ (λ area answer. answer ≡ Some (placed_at pane area ∷ []))
boxes_Window done pane = ap (Boxes done) (sym (rolls-Window pane)) ∙ rec-roll-Node Meaning (gives done) (natural done) (layer.Window pane)

pub boxes_shown : (done : Bool) (child : Node) → Boxes done (When true child) ≡ Boxes done child
boxes_shown done child = ap (Boxes done) (sym (rolls-When true child)) ∙ rec-roll-Node Meaning (gives done) (natural done) (layer.When true child)

pub boxes_absent : (done : Bool) (child : Node) → Boxes done (When false child) ≡ (λ area answer. answer ≡ Some [])
boxes_absent done child = ap (Boxes done) (sym (rolls-When false child)) ∙ rec-roll-Node Meaning (gives done) (natural done) (layer.When false child)

pub boxes_FloatBox : (done : Bool) (child : Node) (floats : List Float) → Boxes done (FloatBox child floats) ≡ (λ area answer. (Boxes done child area None × (answer ≡ None)) ⊎ ((under : List PlacedFields) × Boxes done child area (Some under) × (answer ≡ Some (with_floats area under floats))))
boxes_FloatBox done child floats = ap (Boxes done) (sym (rolls-FloatBox child floats)) ∙ rec-roll-Node Meaning (gives done) (natural done) (layer.FloatBox child floats)

-- a box whose inner node has too little room has too
pub box_none : (done : Bool) (child : Node) (floats : List Float) (area : Area) → Boxes done child area None → Boxes done (FloatBox child floats) area None
box_none done child floats area none = subst (λ (m : Meaning). m area None) (sym (boxes_FloatBox done child floats)) (inl (none, refl))

pub box_some : (done : Bool) (child : Node) (floats : List Float) (area : Area) (under : List PlacedFields) → Boxes done child area (Some under) → Boxes done (FloatBox child floats) area (Some (with_floats area under floats))
box_some done child floats area under some = subst (λ (m : Meaning). m area (Some (with_floats area under floats))) (sym (boxes_FloatBox done child floats)) (inr (under, some, refl))
