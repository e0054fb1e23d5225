use Rattle.std.proofs.Common.{List, sym, ap, subst}
use Rattle.box_layout.specs.Listing.{Listed, IsFirst}
use Rattle.box_layout.proofs.Listed.{first_in}
use Rattle.box_layout.proofs.listings.first_of.Goals as goal

pub split_at-requires : goal.split_at-requires
split_at-requires c =
    (first_in c.args.listed.now c.index-listed-0.result c.first.inside.inner c.requires.listing c.requires.some c.index-listed-0.is (ap (λ (l : Listed). l.inner) c.first.view_is)).0

pub returns : goal.returns
returns c =
    subst (λ (l : List Listed). IsFirst c.args.listed.now c.index-listed-0.result l) (sym c.split_at.ensures.front)
    (first_in c.args.listed.now c.index-listed-0.result c.first.inside.inner c.requires.listing c.requires.some c.index-listed-0.is (ap (λ (l : Listed). l.inner) c.first.view_is)).1
