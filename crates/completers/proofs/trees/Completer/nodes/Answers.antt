use Rattle.std.proofs.Common.{[], ◌∷◌, ap, ◌∙◌}
use Rattle.completers.specs.Trees.{trees_of}
use Rattle.completers.proofs.TreeLists.{root_alone}
use Rattle.completers.proofs.trees.Completer.nodes.Goals as goal

pub returns : goal.returns
returns c =
    ap (λ nodes. trees_of nodes []) c.as_slice.ensures.value ∙ root_alone (trees_of c.self.inside.nodes.items []) c.self.invariant ∙ ap (λ tree. tree ∷ []) c.self.view_is
