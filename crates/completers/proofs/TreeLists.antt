-- The trees that a list of nodes leaves, behind other nodes and above other trees.
use Rattle.std.proofs.Common.{◌≡◌, true, List, [], ◌∷◌, ◌++◌, refl, ap, ◌∙◌}
use Rattle.completers.specs.declared.trees.Node.{Node}
use Rattle.completers.specs.declared.trees.Node.TheVariants.{Words, Nested, Merged, Distinct}
use Rattle.completers.specs.Trees.{Tree, words, nested, merged, distinct, trees_of, root_of, is_one}
use Rattle.completers.specs.TreeCodes.{tree_from}

-- further nodes go on with the trees that were left
pub trees_of-append : (nodes more : List Node) (trees : List Tree) (top : Tree) (left : List Tree)
    → trees_of nodes trees ≡ top ∷ left → trees_of (nodes ++ more) trees ≡ trees_of more (top ∷ left)
trees_of-append [] more trees top left is = ap (trees_of more) is
trees_of-append (Words listed middle ∷ nodes) more trees top left is = trees_of-append nodes more (words listed middle ∷ trees) top left is
trees_of-append (Nested options ∷ nodes) more trees top left is = trees_of-append nodes more (nested options ∷ trees) top left is
trees_of-append (Merged ∷ nodes) more [] top left is = cc
trees_of-append (Merged ∷ nodes) more (tree ∷ []) top left is = cc
trees_of-append (Merged ∷ nodes) more (second ∷ first ∷ trees) top left is = trees_of-append nodes more (merged first second ∷ trees) top left is
trees_of-append (Distinct ∷ nodes) more [] top left is = cc
trees_of-append (Distinct ∷ nodes) more (tree ∷ trees) top left is = trees_of-append nodes more (distinct tree ∷ trees) top left is

-- trees below those that the nodes take stay
pub trees_of-below : (nodes : List Node) (trees below : List Tree) (top : Tree) (left : List Tree)
    → trees_of nodes trees ≡ top ∷ left → trees_of nodes (trees ++ below) ≡ top ∷ (left ++ below)
trees_of-below [] trees below top left is = ap (λ ts. ts ++ below) is
trees_of-below (Words listed middle ∷ nodes) trees below top left is = trees_of-below nodes (words listed middle ∷ trees) below top left is
trees_of-below (Nested options ∷ nodes) trees below top left is = trees_of-below nodes (nested options ∷ trees) below top left is
trees_of-below (Merged ∷ nodes) [] below top left is = cc
trees_of-below (Merged ∷ nodes) (tree ∷ []) below top left is = cc
trees_of-below (Merged ∷ nodes) (second ∷ first ∷ trees) below top left is = trees_of-below nodes (merged first second ∷ trees) below top left is
trees_of-below (Distinct ∷ nodes) [] below top left is = cc
trees_of-below (Distinct ∷ nodes) (tree ∷ trees) below top left is = trees_of-below nodes (distinct tree ∷ trees) below top left is

-- one tree is the root alone
pub root_alone : (trees : List Tree) → is_one trees ≡ true → trees ≡ root_of trees ∷ []
root_alone [] one = cc
root_alone (tree ∷ []) one = refl
root_alone (tree ∷ second ∷ trees) one = cc

-- the nodes of two trees and `Merged` leave the tree that merges them
pub merged_nodes : (first second : List Node) → is_one (trees_of first []) ≡ true → is_one (trees_of second []) ≡ true
    → trees_of ((first ++ second) ++ Merged ∷ []) [] ≡ merged (tree_from first) (tree_from second) ∷ []
merged_nodes first second one other =
    let a = root_alone (trees_of first []) one in
    let b = root_alone (trees_of second []) other in
    let both : trees_of (first ++ second) [] ≡ tree_from second ∷ (tree_from first ∷ []) =
    trees_of-append first second [] (tree_from first) [] a ∙ trees_of-below second [] (tree_from first ∷ []) (tree_from second) [] b in
    trees_of-append (first ++ second) (Merged ∷ []) [] (tree_from second) (tree_from first ∷ []) both

-- the nodes of a tree and `Distinct` leave the tree that keeps its completions apart
pub distinct_nodes : (nodes : List Node) → is_one (trees_of nodes []) ≡ true
    → trees_of (nodes ++ Distinct ∷ []) [] ≡ distinct (tree_from nodes) ∷ []
distinct_nodes nodes one = trees_of-append nodes (Distinct ∷ []) [] (tree_from nodes) [] (root_alone (trees_of nodes []) one)
