-- What a contract asks of a layout: that no split has more children than a division can serve.
use Rattle.std.specs.Prelude.{◌≤◌, List, [], ◌∷◌, length}
use Rattle.box_layout.specs.declared.nodes.Node.{Node}
use Rattle.box_layout.specs.declared.nodes.Node.TheOpen as layer
use Rattle.box_layout.specs.declared.nodes.Node.TheFolds.{rec-Node}

-- each of the children is so
abbrev pub EachChild : (X : Type 0) → (X → Type 0) → List X → Type 0
EachChild X is [] = Unit {0}
EachChild X is (child ∷ rest) = is child × EachChild X is rest

-- whether the splits in a node have few children, given whether those in each node inside it do
abbrev pub few_by : (X : Type 0) → (X → Node) → (X → Type 0) → layer.Node-F X → Type 0
few_by X node few (layer.HSplit children) = (length children ≤ 1000) × EachChild X few children
few_by X node few (layer.VSplit children) = (length children ≤ 1000) × EachChild X few children
few_by X node few (layer.Window pane) = Unit {0}
few_by X node few (layer.When shown child) = few child
few_by X node few (layer.FloatBox child floats) = few child

-- each split has at most 1,000 children
abbrev pub HasFewChildren : Node → Type 0
HasFewChildren = rec-Node (Type 0) few_by
