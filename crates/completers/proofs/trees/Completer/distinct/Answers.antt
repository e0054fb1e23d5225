use Rattle.std.proofs.Common.{ap, ◌∙◌, []}
use Rattle.completers.specs.Trees.{root_of, is_one, trees_of, distinct}
use Rattle.completers.proofs.TreeLists.{distinct_nodes}
use Rattle.completers.proofs.trees.Completer.distinct.Goals as goal

pub invariant_of-result : goal.invariant_of-result
invariant_of-result c =
    let nodes = c.inner.inside.nodes.items in
    let left = distinct_nodes nodes c.inner.invariant in
    ap (λ ns. is_one (trees_of ns [])) c.in_ok-push.ensures.items ∙ ap is_one left

pub returns : goal.returns
returns c =
    let nodes = c.inner.inside.nodes.items in
    let left = distinct_nodes nodes c.inner.invariant in
    ap (λ ns. root_of (trees_of ns [])) c.in_ok-push.ensures.items ∙ ap root_of left ∙ ap distinct c.inner.view_is
