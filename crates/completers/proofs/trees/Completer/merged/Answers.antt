use Rattle.std.proofs.Common.{ap, ◌∙◌, [], ◌∷◌, ◌++◌}
use Rattle.completers.specs.Trees.{root_of, is_one, trees_of, merged}
use Rattle.completers.specs.declared.trees.Node.TheVariants.{Merged}
use Rattle.completers.specs.TreeCodes.{tree_from}
use Rattle.completers.proofs.TreeLists.{merged_nodes}
use Rattle.completers.proofs.trees.Completer.merged.Goals as goal

pub invariant_of-result : goal.invariant_of-result
invariant_of-result c =
    let first = c.first.inside.nodes.items in
    let second = c.second.inside.nodes.items in
    let left = merged_nodes first second c.first.invariant c.second.invariant in
    ap (λ ns. is_one (trees_of ns [])) (c.in_ok-push.ensures.items ∙ ap (λ ns. ns ++ Merged ∷ []) c.in_ok-append.ensures.items) ∙ ap is_one left

pub returns : goal.returns
returns c =
    let first = c.first.inside.nodes.items in
    let second = c.second.inside.nodes.items in
    let left = merged_nodes first second c.first.invariant c.second.invariant in
    ap (λ ns. root_of (trees_of ns [])) (c.in_ok-push.ensures.items ∙ ap (λ ns. ns ++ Merged ∷ []) c.in_ok-append.ensures.items) ∙ ap root_of left
    ∙ ap (λ t. merged t (tree_from second)) c.first.view_is ∙ ap (λ t. merged c.args.first t) c.second.view_is
