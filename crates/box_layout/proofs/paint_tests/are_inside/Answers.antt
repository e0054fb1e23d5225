use Rattle.std.proofs.Common.{◌≡◌, ◌+◌, [], ◌∷◌, ◌++◌, take, sym, subst, ap, ◌∙◌, refl}
use Rattle.std.proofs.lemmas.List.{take_all, take_more}
use Rattle.std.proofs.lemmas.List.Elements.{All-nil, All-cons, All-append}
use Rattle.box_layout.specs.Areas.{IsInside}
use Rattle.box_layout.specs.Placed.{AllInside, PlacedFields, area_of}
use Rattle.box_layout.proofs.paint_tests.are_inside.Goals as goal

pub loop-one-preserved : goal.loop-one-preserved
loop-one-preserved c =
    let placed = c.args.placed.now in
    let before = take c.loop-one.one-index placed in
    let p = c.one-item.result in
    let IsPart : PlacedFields → Type 0 = λ q. IsInside c.args.area.now (area_of q) in
    let next : before ++ p ∷ [] ≡ take (c.loop-one.one-index + 1) placed =
    sym (take_more placed c.loop-one.one-index p c.loop-one-test.true ∙ ap (λ (q : PlacedFields). before ++ q ∷ []) (sym c.one-item.is))
    in
    subst (AllInside c.args.area.now) next (All-append IsPart before (p ∷ []) c.loop-one.invariant (All-cons IsPart p [] (c.if-not-is_inside.ensures refl) (All-nil IsPart)))

pub returns : goal.returns
returns c = λ true. subst (AllInside c.args.area.now) (take_all c.loop-one.one-index c.args.placed.now c.loop-one-test.false) c.loop-one.invariant
