-- How completions are gathered: the lists of the trees so far stand one behind the other.
use Rattle.std.specs.Prelude.{◌≡◌, ℕ, Bool, true, false, not, List, [], ◌∷◌, ◌++◌, length, map, filter}
use Rattle.std.specs.Str.{bytes_eq}
use Rattle.text_doc.specs.Document.{Document}
use Rattle.text_doc.specs.declared.completions.Completion.{Completion}
use Rattle.completers.specs.declared.trees.Node.{Node}
use Rattle.completers.specs.Trees.{Tree, trees_of}
use Rattle.completers.specs.Listed.{all_items}

-- of completions with equal texts the first
abbrev pub first_texts : List Completion → List Completion
first_texts [] = []
first_texts (item ∷ items) = item ∷ filter (λ later. not (bytes_eq later.text item.text)) (first_texts items)

-- the same without those whose text is what is typed
abbrev pub own_texts : List ℕ → List Completion → List Completion
own_texts typed items = filter (λ item. not (bytes_eq item.text typed)) (first_texts items)

-- the completions whose place holds true
abbrev pub chosen : List Bool → List Completion → List Completion
chosen [] items = []
chosen (choice ∷ choices) [] = []
chosen (true ∷ choices) (item ∷ items) = item ∷ chosen choices items
chosen (false ∷ choices) (item ∷ items) = chosen choices items

-- the lists in one, of which the last one comes first
abbrev pub joined : List (List Completion) → List Completion
joined [] = []
joined (items ∷ lists) = joined lists ++ items

-- where each of them starts
abbrev pub starts_of : List (List Completion) → List ℕ
starts_of [] = []
starts_of (items ∷ lists) = starts_of lists ++ length (joined lists) ∷ []

-- all completions of each tree
abbrev pub lists_of : Document → List Tree → List (List Completion)
lists_of d trees = map (λ tree. all_items tree d) trees

-- these are the completions of the trees, and the places where those of each tree start
pub record Gathers (d : Document) (trees : List Tree) (items : List Completion) (starts : List ℕ) : Type 0 where
  pub items_are : items ≡ joined (lists_of d trees)
  pub starts_are : starts ≡ starts_of (lists_of d trees)

-- the completions so far are those of some trees, of which the nodes that are left make this one tree
abbrev pub Gathering : Document → List Node → Tree → List Completion → List ℕ → Type 0
Gathering d nodes tree items starts = (trees : List Tree) × Gathers d trees items starts × (trees_of nodes trees ≡ tree ∷ [])

-- the next node is `node`, on the way to the completions of some tree
abbrev pub IsNext : Document → Node → List Completion → List ℕ → Type 0
IsNext d node items starts = (nodes : List Node) × (tree : Tree) × Gathering d (node ∷ nodes) tree items starts

-- once `node` is taken, the way to the completions of a tree goes on with the nodes behind it
abbrev pub Takes : Document → Node → List Completion → List ℕ → List Completion → List ℕ → Type 0
Takes d node items starts more next =
    (nodes : List Node) (tree : Tree) → Gathering d (node ∷ nodes) tree items starts → Gathering d nodes tree more next
