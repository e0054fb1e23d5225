use Rattle.std.proofs.Common.{None, Some, true, false, sym, subst, ◌∙◌}
use Rattle.box_layout.specs.Areas.{whole}
use Rattle.box_layout.specs.Boxes.{Boxes}
use Rattle.box_layout.specs.Children.{HasFewChildren}
use Rattle.box_layout.proofs.Adding.{adds_alone, adds_at}
use Rattle.box_layout.proofs.Listed.{is_only}
use Rattle.box_layout.proofs.boxes.place.Goals as goal

pub first_of-requires : goal.first_of-requires
first_of-requires c =
    let only = is_only c.args.node.now _ (c.as_slice.ensures.value ∙ c.in_ok-listed.ensures) in
    record { listing = only.listing; some = only.some }

pub place_in-requires-clause-few : goal.place_in-requires-clause-few
place_in-requires-clause-few c =
    let only = is_only c.args.node.now _ (c.as_slice.ensures.value ∙ c.in_ok-listed.ensures) in
    subst HasFewChildren (sym (only.first _ _ c.first_of.ensures)) c.requires

pub returns-then-not-branch-clause-boxes : goal.returns-then-not-branch-clause-boxes
returns-then-not-branch-clause-boxes c =
    let only = is_only c.args.node.now _ (c.as_slice.ensures.value ∙ c.in_ok-listed.ensures) in
    let node = c.first_of.result.0.now.node in
    let none = adds_at (Boxes c.args.done node c.whole-area.result) c.whole-area.result c.new-placed.result c.place_in.new.placed _ false c.if-not-branch.true c.in_ok-place_in.ensures in
    subst (λ n. Boxes c.args.done n (whole c.args.size) None) (only.first _ _ c.first_of.ensures) (subst (λ area. Boxes c.args.done node area None) c.whole-area.ensures.is none)

pub returns-clause-boxes : goal.returns-clause-boxes
returns-clause-boxes c =
    let only = is_only c.args.node.now _ (c.as_slice.ensures.value ∙ c.in_ok-listed.ensures) in
    let node = c.first_of.result.0.now.node in
    let placed = c.place_in.new.placed in
    let all = adds_alone (Boxes c.args.done node c.whole-area.result) c.whole-area.result c.new-placed.result placed c.new-placed.ensures (adds_at (Boxes c.args.done node c.whole-area.result) c.whole-area.result c.new-placed.result placed _ true c.if-not-branch.false c.in_ok-place_in.ensures) in
    subst (λ n. Boxes c.args.done n (whole c.args.size) (Some placed)) (only.first _ _ c.first_of.ensures) (subst (λ area. Boxes c.args.done node area (Some placed)) c.whole-area.ensures.is all)
