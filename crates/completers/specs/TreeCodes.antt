-- How the logic stores a tree: as the list of its nodes, each behind those that it is of.
use Rattle.std.specs.Prelude.{◌≡◌, List, [], ◌∷◌, ◌++◌, refl}
use Rattle.std.proofs.Common.{sym, ap, ◌∙◌, append_assoc}
use Rattle.std.proofs.lemmas.List.{append-nil}
use Rattle.std.specs.Coded.{Coded, code_by, coded_list}
use Rattle.completers.specs.declared.trees.Node.{Node}
use Rattle.completers.specs.declared.trees.Node.TheVariants.{Words, Nested, Merged, Distinct}
use Rattle.completers.specs.Trees.{Tree, words, nested, merged, distinct, trees_of, root_of}

-- the nodes of a tree
abbrev pub nodes_of : Tree → List Node
nodes_of (words listed middle) = Words listed middle ∷ []
nodes_of (nested options) = Nested options ∷ []
nodes_of (merged first second) = nodes_of first ++ (nodes_of second ++ Merged ∷ [])
nodes_of (distinct tree) = nodes_of tree ++ Distinct ∷ []

-- nodes of a tree leave the tree
pub trees_of-nodes_of : (tree : Tree) (rest : List Node) (trees : List Tree) → trees_of (nodes_of tree ++ rest) trees ≡ trees_of rest (tree ∷ trees)
trees_of-nodes_of (words listed middle) rest trees = refl
trees_of-nodes_of (nested options) rest trees = refl
trees_of-nodes_of (merged first second) rest trees =
    ap (λ nodes. trees_of nodes trees) (append_assoc (nodes_of first) (nodes_of second ++ Merged ∷ []) rest)
    ∙ trees_of-nodes_of first ((nodes_of second ++ Merged ∷ []) ++ rest) trees
    ∙ ap (λ nodes. trees_of nodes (first ∷ trees)) (append_assoc (nodes_of second) (Merged ∷ []) rest)
    ∙ trees_of-nodes_of second (Merged ∷ rest) (first ∷ trees)
trees_of-nodes_of (distinct tree) rest trees =
    ap (λ nodes. trees_of nodes trees) (append_assoc (nodes_of tree) (Distinct ∷ []) rest) ∙ trees_of-nodes_of tree (Distinct ∷ rest) trees

-- the tree that some nodes leave
abbrev pub tree_from : List Node → Tree
tree_from nodes = root_of (trees_of nodes [])

pub tree_from-nodes_of : (tree : Tree) → tree_from (nodes_of tree) ≡ tree
tree_from-nodes_of tree =
    ap tree_from (sym (append-nil (nodes_of tree))) ∙ ap root_of (trees_of-nodes_of tree [] [])

-- a tree is stored as its nodes
abbrev pub tree_code : Coded Node → Coded Tree
tree_code node_code = code_by (List Node) (coded_list node_code) nodes_of tree_from tree_from-nodes_of
