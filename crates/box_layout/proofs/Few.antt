-- What a layout whose splits have few children says of the nodes inside it.
use Rattle.std.proofs.Common.{Bool, ◌≡◌, ◌≤◌, refl, sym, ◌∙◌, ap, subst, List, [], ◌∷◌, map, length, suc}
use mathlib.Core.Path.{transport}
use Rattle.box_layout.specs.declared.nodes.Float.{Float}
use Rattle.box_layout.specs.declared.nodes.Node.{Node}
use Rattle.box_layout.specs.declared.nodes.Node.TheOpen as layer
use Rattle.box_layout.specs.declared.nodes.Node.TheVariants.{HSplit, VSplit, Window, When, FloatBox, rolls-HSplit, rolls-VSplit, rolls-Window, rolls-When, rolls-FloatBox}
use Rattle.box_layout.specs.declared.nodes.Node.TheFolds.{rec-roll-Node, map-Node}
use Rattle.std.specs.Prelude.{IsTrue, ◌↔◌}
use Rattle.box_layout.specs.Panes.{PaneFields}
use Rattle.box_layout.specs.Children.{EachChild, HasFewChildren, few_by}

each_map : (X : Type 0) (v : X → Node) (k : Node → Type 0) (xs : List X) → EachChild X (λ x. k (v x)) xs ≡ EachChild Node k (map v xs)
each_map X v k [] = refl
each_map X v k (x ∷ xs) = λ i. k (v x) × each_map X v k xs i

length_map : {X Y : Type 0} (v : X → Y) (xs : List X) → length xs ≡ length (map v xs)
length_map v [] = refl
length_map v (x ∷ xs) = ap suc (length_map v xs)

natural : (X : Type 0) (v : X → Node) (k : Node → Type 0) (x : layer.Node-F X) → few_by X v (λ p. k (v p)) x ≡ few_by Node (λ y. y) k (map-Node X Node v x)
natural X v k (layer.HSplit children) = λ i. (length_map v children i ≤ 1000) × each_map X v k children i
natural X v k (layer.VSplit children) = λ i. (length_map v children i ≤ 1000) × each_map X v k children i
natural X v k (layer.Window pane) = refl
natural X v k (layer.When shown child) = refl
natural X v k (layer.FloatBox child floats) = refl

-- what few children mean at each kind of node
pub few_at_HSplit : (children : List Node) → HasFewChildren (HSplit children) ≡ ((length children ≤ 1000) × EachChild Node HasFewChildren children)
few_at_HSplit children = ap HasFewChildren (sym (rolls-HSplit children)) ∙ rec-roll-Node (Type 0) few_by natural (layer.HSplit children)

pub few_at_VSplit : (children : List Node) → HasFewChildren (VSplit children) ≡ ((length children ≤ 1000) × EachChild Node HasFewChildren children)
few_at_VSplit children = ap HasFewChildren (sym (rolls-VSplit children)) ∙ rec-roll-Node (Type 0) few_by natural (layer.VSplit children)

pub few_at_Window : (pane : PaneFields) → HasFewChildren (Window pane) ≡ Unit {0}
few_at_Window pane = ap HasFewChildren (sym (rolls-Window pane)) ∙ rec-roll-Node (Type 0) few_by natural (layer.Window pane)

pub few_at_When : (shown : Bool) (child : Node) → HasFewChildren (When shown child) ≡ HasFewChildren child
few_at_When shown child = ap HasFewChildren (sym (rolls-When shown child)) ∙ rec-roll-Node (Type 0) few_by natural (layer.When shown child)

pub few_at_FloatBox : (child : Node) (floats : List Float) → HasFewChildren (FloatBox child floats) ≡ HasFewChildren child
few_at_FloatBox child floats = ap HasFewChildren (sym (rolls-FloatBox child floats)) ∙ rec-roll-Node (Type 0) few_by natural (layer.FloatBox child floats)

pub few_HSplit : (children : List Node) → HasFewChildren (HSplit children) → (length children ≤ 1000) × EachChild Node HasFewChildren children
few_HSplit children few = transport (few_at_HSplit children) few

pub few_VSplit : (children : List Node) → HasFewChildren (VSplit children) → (length children ≤ 1000) × EachChild Node HasFewChildren children
few_VSplit children few = transport (few_at_VSplit children) few

pub few_When : (shown : Bool) (child : Node) → HasFewChildren (When shown child) → HasFewChildren child
few_When shown child few = transport (few_at_When shown child) few

pub few_FloatBox : (child : Node) (floats : List Float) → HasFewChildren (FloatBox child floats) → HasFewChildren child
few_FloatBox child floats few = transport (few_at_FloatBox child floats) few

-- a test of a fact is one of the fact under its other name
pub same_test : (b : Bool) (P Q : Type 0) → P ≡ Q → (IsTrue b ↔ Q) → (IsTrue b ↔ P)
same_test b P Q e test = subst (λ (R : Type 0). IsTrue b ↔ R) (sym e) test
