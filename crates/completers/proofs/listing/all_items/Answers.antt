use Rattle.std.proofs.Common.{◌+◌, ◌≤◌, ◌∷◌, drop, ap, sym, ◌∙◌}
use Rattle.std.proofs.lemmas.List.{drop_more, drop_all}
use Rattle.completers.specs.Trees.{trees_of}
use Rattle.std.proofs.lemmas.List.Elements.{All-same}
use Rattle.completers.specs.Listed.{all_items}
use Rattle.completers.proofs.ReachLemmas.{reach_all}
use Rattle.completers.proofs.GatheringLemmas.{gathers_one}
use Rattle.completers.proofs.listing.all_items.Goals as goal

pub take_node-requires-clause-next : goal.take_node-requires-clause-next
take_node-requires-clause-next c =
    let nodes = c.nodes-node-items.result.now in
    let at = c.loop-node.node-index in
    let so_far = c.loop-node.invariant in
    let cut = drop_more nodes at c.node-item.result c.loop-node-test.true ∙ ap (λ n. n ∷ drop (at + 1) nodes) (sym c.node-item.is) in
    (drop (at + 1) nodes, c.args.completer.now, (so_far.0, so_far.1, ap (λ ns. trees_of ns so_far.0) (sym cut) ∙ so_far.2))

pub loop-node-preserved : goal.loop-node-preserved
loop-node-preserved c =
    let nodes = c.nodes-node-items.result.now in
    let at = c.loop-node.node-index in
    let so_far = c.loop-node.invariant in
    let cut = drop_more nodes at c.node-item.result c.loop-node-test.true ∙ ap (λ n. n ∷ drop (at + 1) nodes) (sym c.node-item.is) in
    c.in_ok-take_node.ensures (drop (at + 1) nodes) c.args.completer.now (so_far.0, so_far.1, ap (λ ns. trees_of ns so_far.0) (sym cut) ∙ so_far.2)

pub returns-clause-reach : goal.returns-clause-reach
returns-clause-reach c =
    let doc = c.args.doc.now in
    let tree = c.args.completer.now in
    let so_far = c.loop-node.invariant in
    let none = drop_all c.loop-node.node-index c.nodes-node-items.result.now c.loop-node-test.false in
    let items = gathers_one doc tree c.loop-node.items.items c.loop-node.starts.items (so_far.0, so_far.1, sym (ap (λ ns. trees_of ns so_far.0) none) ∙ so_far.2) in
    All-same (λ item. item.back ≤ doc.cursor) c.loop-node.items.items (all_items tree doc) items (reach_all tree doc)
