use Rattle.std.proofs.Common.{◌≤◌, take, ◌∙◌}
use Rattle.std.proofs.lemmas.List.Elements.{All-same, All-take}
use Rattle.completers.specs.declared.listing.TheConstants.{MAX_COMPLETIONS}
use Rattle.completers.proofs.listing.completions.Goals as goal

pub returns-clause-reach : goal.returns-clause-reach
returns-clause-reach c =
    let items = c.in_ok-items.items.items in
    All-same (λ item. item.back ≤ c.args.doc.now.cursor) c.from_vec.result (take MAX_COMPLETIONS items) (c.from_vec.ensures ∙ c.truncate.ensures.items)
    (All-take (λ item. item.back ≤ c.args.doc.now.cursor) MAX_COMPLETIONS items c.in_ok-items.ensures.reach)
