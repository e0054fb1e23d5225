use Rattle.std.proofs.Common.{true, false, ◌≡◌, ◌∷◌, ◌++◌, flat_map, ap, sym, ◌∙◌, arith}
use Rattle.layout_dims.specs.Numbers.{sum_of, largest_of}
use Rattle.box_layout.specs.declared.nodes.Node.TheVariants.{When, FloatBox}
use Rattle.box_layout.specs.Asked.{asked}
use Rattle.box_layout.specs.Listing.{Listed, inside, listing, tops}
use Rattle.box_layout.proofs.Asking.{here, asked_HSplit, asked_VSplit, asked_shown, asked_FloatBox, parts_along}
use Rattle.box_layout.proofs.Listed.{children_added, is_listing, tops_listing, first_added, put_in, count_inner, listing_is}
use Rattle.box_layout.proofs.listings.+listing.Goals as goal

pub list_node-returns : goal.list_node-returns
list_node-returns t c =
    let old = c.args.listed.now.items in
    let node = c.args.node.now in
    let inner = flat_map listing (inside node) in
    let len = c.len-at.ensures ∙ c.args.listed.now.ok.0 in
    let all = c.in_ok-asked.ensures.listed ∙ ap (λ l. l ++ inner) c.in_ok-push.ensures.items in
    let count = count_inner old _ _ inner c.len-at.result c.len.result all len (c.len.ensures ∙ c.list_inner.new.listed.ok.0) in
    put_in old inner _ _ _ c.len-at.result all len
    ∙ (λ i. old ++ record { node = node; asked = c.in_ok-asked.ensures.asked i; inner = count i } ∷ inner)
    ∙ ap (λ l. old ++ l) (sym (listing_is node))

pub list_inner-parts_of-requires : goal.list_inner-parts_of-requires
list_inner-parts_of-requires t c =
    let all = c.deref.ensures.value ∙ c.in_ok-list_all-in-HSplit.ensures in
    is_listing c.as_slice.result.now _ (children_added c.args.listed.now.items _ _ c.len-first.result (c.len-first.ensures ∙ c.args.listed.now.ok.0) all)

pub list_inner-parts_of-requires-in-HSplit : goal.list_inner-parts_of-requires-in-HSplit
list_inner-parts_of-requires-in-HSplit t c =
    let all = c.deref.ensures.value ∙ c.in_ok-list_all-in-HSplit.ensures in
    is_listing c.as_slice.result.now _ (children_added c.args.listed.now.items _ _ c.len-first.result (c.len-first.ensures ∙ c.args.listed.now.ok.0) all)

pub list_inner-parts_of-requires-in-VSplit : goal.list_inner-parts_of-requires-in-VSplit
list_inner-parts_of-requires-in-VSplit t c =
    let all = c.deref-in-VSplit.ensures.value ∙ c.in_ok-list_all-in-VSplit.ensures in
    is_listing c.as_slice-in-VSplit.result.now _ (children_added c.args.listed.now.items _ _ c.len-first.result (c.len-first.ensures ∙ c.args.listed.now.ok.0) all)

pub list_inner-parts_of-requires-in-VSplit-2 : goal.list_inner-parts_of-requires-in-VSplit-2
list_inner-parts_of-requires-in-VSplit-2 t c =
    let all = c.deref-in-VSplit.ensures.value ∙ c.in_ok-list_all-in-VSplit.ensures in
    is_listing c.as_slice-in-VSplit.result.now _ (children_added c.args.listed.now.items _ _ c.len-first.result (c.len-first.ensures ∙ c.args.listed.now.ok.0) all)

pub list_inner-index-requires : goal.list_inner-index-requires
list_inner-index-requires t c =
    let first = first_added c.args.listed.now.items _ c.get.result.now c.len-first.result (c.len-first.ensures ∙ c.args.listed.now.ok.0) c.in_ok-list_node-in-When.ensures in
    omega (arith, first.0, c.list_node.new.listed.ok.0)

pub list_inner-index-requires-in-FloatBox : goal.list_inner-index-requires-in-FloatBox
list_inner-index-requires-in-FloatBox t c =
    let first = first_added c.args.listed.now.items _ c.get-in-FloatBox.result.now c.len-first.result (c.len-first.ensures ∙ c.args.listed.now.ok.0) c.in_ok-list_node-in-FloatBox.ensures in
    omega (arith, first.0, c.list_node-in-FloatBox.new.listed.ok.0)

pub list_inner-returns-in_ok-cols-in-HSplit-clause-asked : goal.list_inner-returns-in_ok-cols-in-HSplit-clause-asked
list_inner-returns-in_ok-cols-in-HSplit-clause-asked t c =
    let all = c.deref.ensures.value ∙ c.in_ok-list_all-in-HSplit.ensures in
    let tops_are = ap tops (children_added c.args.listed.now.items _ _ c.len-first.result (c.len-first.ensures ∙ c.args.listed.now.ok.0) all) ∙ tops_listing c.as_slice.result.now ∙ c.as_slice.ensures in
    let rows = c.sum.ensures ∙ ap sum_of (c.deref-in-HSplit.ensures.value ∙ c.in_ok-rows-in-HSplit.ensures ∙ ap (parts_along false) tops_are) in
    let cols = c.largest.ensures ∙ ap largest_of (c.deref-in-HSplit-2.ensures.value ∙ c.in_ok-cols-in-HSplit.ensures ∙ ap (parts_along true) tops_are) in
    c.here.ensures ∙ (λ i. here (rows i) (cols i)) ∙ sym (ap asked c.in-HSplit.is ∙ asked_HSplit _)

pub list_inner-returns-in_ok-cols-in-VSplit-clause-asked : goal.list_inner-returns-in_ok-cols-in-VSplit-clause-asked
list_inner-returns-in_ok-cols-in-VSplit-clause-asked t c =
    let all = c.deref-in-VSplit.ensures.value ∙ c.in_ok-list_all-in-VSplit.ensures in
    let tops_are = ap tops (children_added c.args.listed.now.items _ _ c.len-first.result (c.len-first.ensures ∙ c.args.listed.now.ok.0) all) ∙ tops_listing c.as_slice-in-VSplit.result.now ∙ c.as_slice-in-VSplit.ensures in
    let rows = c.largest-in-VSplit.ensures ∙ ap largest_of (c.deref-in-VSplit-2.ensures.value ∙ c.in_ok-rows-in-VSplit.ensures ∙ ap (parts_along false) tops_are) in
    let cols = c.sum-in-VSplit.ensures ∙ ap sum_of (c.deref-in-VSplit-3.ensures.value ∙ c.in_ok-cols-in-VSplit.ensures ∙ ap (parts_along true) tops_are) in
    c.here-in-VSplit.ensures ∙ (λ i. here (rows i) (cols i)) ∙ sym (ap asked c.in-VSplit.is ∙ asked_VSplit _)

pub list_inner-returns-in_ok-list_node-in-When-clause-asked : goal.list_inner-returns-in_ok-list_node-in-When-clause-asked
list_inner-returns-in_ok-list_node-in-When-clause-asked t c =
    let first = first_added c.args.listed.now.items _ c.get.result.now c.len-first.result (c.len-first.ensures ∙ c.args.listed.now.ok.0) c.in_ok-list_node-in-When.ensures in
    let own = ap (λ (l : Listed). l.asked) (c.behind-listed.view_is ∙ c.index.ensures) ∙ first.1 _ in
    let is : c.args.node.now ≡ When true c.get.result.now = c.in-When.is ∙ ap (When c.in-When.shown) (sym c.get.ensures) ∙ ap (λ b. When b c.get.result.now) c.if-not-shown.false in
    c.here-in-When.ensures ∙ (λ i. here (own i).rows (own i).cols) ∙ sym (ap asked is ∙ asked_shown _)

pub list_inner-returns-in_ok-list_node-in-FloatBox-clause-asked : goal.list_inner-returns-in_ok-list_node-in-FloatBox-clause-asked
list_inner-returns-in_ok-list_node-in-FloatBox-clause-asked t c =
    let first = first_added c.args.listed.now.items _ c.get-in-FloatBox.result.now c.len-first.result (c.len-first.ensures ∙ c.args.listed.now.ok.0) c.in_ok-list_node-in-FloatBox.ensures in
    let own = ap (λ (l : Listed). l.asked) (c.behind-listed-in-FloatBox.view_is ∙ c.index-in-FloatBox.ensures) ∙ first.1 _ in
    let is : c.args.node.now ≡ FloatBox c.get-in-FloatBox.result.now c.in-FloatBox.field-1 = c.in-FloatBox.is ∙ ap (λ n. FloatBox n c.in-FloatBox.field-1) (sym c.get-in-FloatBox.ensures) in
    c.here-in-FloatBox.ensures ∙ (λ i. here (own i).rows (own i).cols) ∙ sym (ap asked is ∙ asked_FloatBox _ _)
