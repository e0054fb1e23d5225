-- What a contract sees of the nodes of a layout in a list: each of them before those inside it, with what it asks for.
use Rattle.std.specs.Prelude.{◌≡◌, ◌≤◌, ◌+◌, ℕ, zero, suc, true, false, List, [], ◌∷◌, flat_map, drop, length}
use Rattle.box_layout.specs.declared.asked.Asked.{Asked}
use Rattle.box_layout.specs.declared.nodes.Node.{Node}
use Rattle.box_layout.specs.declared.nodes.Node.TheOpen as layer
use Rattle.box_layout.specs.declared.nodes.Node.TheFolds.{map-Node, para-Node}
use Rattle.box_layout.specs.declared.nodes.Node.TheViews.{out-Node, roll-Node}
use Rattle.box_layout.specs.Asked.{asked}

-- a node in the list, what it asks for, and how many of the nodes behind it are inside it
pub record Listed : Type 0 where
  pub node : Node
  pub asked : Asked
  pub inner : ℕ

-- what stands directly in a layer, but for a part that is not there
abbrev pub parts_by : (X : Type 0) → layer.Node-F X → List X
parts_by X (layer.HSplit children) = children
parts_by X (layer.VSplit children) = children
parts_by X (layer.Window pane) = []
parts_by X (layer.When true part) = part ∷ []
parts_by X (layer.When false part) = []
parts_by X (layer.FloatBox part floats) = part ∷ []

-- the nodes directly inside a node
abbrev pub inside : Node → List Node
inside node = parts_by Node (out-Node node)

-- a node before those inside it
abbrev pub listed_with : Node → List Listed → List Listed
listed_with node inner = record { node = node; asked = asked node; inner = length inner } ∷ inner

-- the list of a node, given each node inside it with its list
abbrev pub listing_by : layer.Node-F (Node × List Listed) → List Listed
listing_by parts =
    listed_with (roll-Node (map-Node (Node × List Listed) Node (λ p. p.0) parts)) (flat_map (λ p. p.1) (parts_by (Node × List Listed) parts))

-- a node and all nodes inside it
abbrev pub listing : Node → List Listed
listing = para-Node (List Listed) listing_by

-- the nodes of a list that are inside no other of it, where so many of the first are inside one before them
abbrev pub tops_behind : ℕ → List Listed → List Node
tops_behind inner [] = []
tops_behind zero (one ∷ rest) = one.node ∷ tops_behind one.inner rest
tops_behind (suc inner) (one ∷ rest) = tops_behind inner rest

abbrev pub tops : List Listed → List Node
tops listed = tops_behind 0 listed

-- a list of some nodes and of all nodes inside them
abbrev pub IsListing : List Listed → Type 0
IsListing listed = listed ≡ flat_map listing (tops listed)

-- the first node of a list, and those inside it
pub record IsFirst (listed : List Listed) (first : Listed) (inner : List Listed) : Type 0 where
  pub asks : first.asked ≡ asked first.node
  pub inside : inner ≡ flat_map listing (inside first.node)
  pub behind : IsListing (drop (length inner + 1) listed)
  pub tops : tops listed ≡ first.node ∷ tops (drop (length inner + 1) listed)
  pub within : length inner + 1 ≤ length listed
