-- What a contract sees of a completer: a tree. A completer keeps it as a list of nodes, each behind those that it is of.
use Rattle.std.specs.Prelude.{ℕ, Bool, true, false, List, [], ◌∷◌}
use Rattle.completers.specs.declared.options.NestedOption.{NestedOption}
use Rattle.completers.specs.declared.trees.Node.{Node}
use Rattle.completers.specs.declared.trees.Node.TheVariants.{Words, Nested, Merged, Distinct}

-- where completions come from
pub data Tree : Type 0 where
  -- words, of which those fit that begin with what is typed, or with `true` those that contain it
  words : List (List ℕ) → Bool → Tree
  -- options with inner words
  nested : List NestedOption → Tree
  -- those of the first and then those of the second
  merged : Tree → Tree → Tree
  -- those that give a text of their own
  distinct : Tree → Tree

-- the trees that some nodes leave, the last one first, behind those that were there; none where a node lacks its parts
abbrev pub trees_of : List Node → List Tree → List Tree
trees_of [] trees = trees
trees_of (Words listed middle ∷ nodes) trees = trees_of nodes (words listed middle ∷ trees)
trees_of (Nested options ∷ nodes) trees = trees_of nodes (nested options ∷ trees)
trees_of (Merged ∷ nodes) [] = []
trees_of (Merged ∷ nodes) (tree ∷ []) = []
trees_of (Merged ∷ nodes) (second ∷ first ∷ trees) = trees_of nodes (merged first second ∷ trees)
trees_of (Distinct ∷ nodes) [] = []
trees_of (Distinct ∷ nodes) (tree ∷ trees) = trees_of nodes (distinct tree ∷ trees)

-- the last tree; no words where there is none
abbrev pub root_of : List Tree → Tree
root_of [] = words [] false
root_of (tree ∷ trees) = tree

-- whether there is exactly one tree
abbrev pub is_one : List Tree → Bool
is_one [] = false
is_one (tree ∷ []) = true
is_one (tree ∷ second ∷ trees) = false
