use Rattle.std.proofs.Common.{ap, ◌∙◌}
use Rattle.box_layout.specs.declared.asked.Asked.{Asked}
use Rattle.box_layout.specs.Asked.{asked, asked_along}
use Rattle.box_layout.specs.Listing.{Listed}
use Rattle.box_layout.proofs.Listed.{is_only}
use Rattle.box_layout.proofs.listings.preferred.Goals as goal

pub first_of-requires : goal.first_of-requires
first_of-requires c =
    let only = is_only c.args.node.now _ (c.as_slice.ensures.value ∙ c.in_ok-listed.ensures) in
    record { listing = only.listing; some = only.some }

pub returns : goal.returns
returns c =
    let only = is_only c.args.node.now _ (c.as_slice.ensures.value ∙ c.in_ok-listed.ensures) in
    c.along.ensures ∙ ap (λ (a : Asked). asked_along c.args.across a)
    (ap (λ (l : Listed). l.asked) c.first.view_is ∙ c.first_of.ensures.asks ∙ ap asked (only.first _ _ c.first_of.ensures))
