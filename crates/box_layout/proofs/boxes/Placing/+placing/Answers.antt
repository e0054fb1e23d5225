use Rattle.std.proofs.Common.{get_or, None, Some, ◌≡◌, [], ◌∷◌, filter, length, ap, sym, ◌∙◌, subst, refl, true, false, arith}
use Rattle.std.proofs.lemmas.List.{drop_all, length-map}
use Rattle.box_layout.specs.declared.asked.Asked.{Asked}
use Rattle.box_layout.specs.declared.nodes.Node.{Node}
use Rattle.box_layout.specs.declared.nodes.Node.TheVariants.{HSplit, VSplit, When, FloatBox}
use Rattle.box_layout.specs.Adding.{Adds, PartGives}
use Rattle.box_layout.specs.Asked.{asked, wanted}
use Rattle.box_layout.specs.Boxes.{Boxes, SplitGives}
use Rattle.box_layout.specs.Children.{EachChild, HasFewChildren}
use Rattle.box_layout.specs.Listing.{Listed, tops}
use Rattle.box_layout.specs.Panes.{PaneFields}
use Rattle.box_layout.specs.Placed.{placed_at}
use Rattle.box_layout.proofs.Adding.{adds_by, adds_none, adds_one, filter_short, adds_at, adds_floats}
use Rattle.box_layout.proofs.Few.{few_When, few_FloatBox}
use Rattle.box_layout.proofs.Listed.{onward, rows_split, columns_split, shown_part, boxed_part}
use Rattle.box_layout.proofs.Placing.{boxes_HSplit, boxes_VSplit, boxes_Window, boxes_shown, boxes_absent, box_none}
use Rattle.box_layout.proofs.Turns.{begun_more, begun_same, begun_ends, begun_all, moved, has_size, size_at, lengths_more, lengths_same, room_more, room_same}
use Rattle.box_layout.proofs.boxes.Placing.+placing.Goals as goal
use Rattle.box_layout.proofs.boxes.Placing.+placing.Goals.{place_parts-then-own+in_ok-place_part+else-not-branch, place_parts-else-own}

pub place_in-place_split-requires : goal.place_in-place_split-requires
place_in-place_split-requires t c =
    let split = rows_split _ c.in-HSplit.field-0 c.args.inner.now (sym (ap (λ (l : Listed). l.node) c.own.view_is) ∙ c.in-HSplit.is) c.requires.few c.requires.inner in
    (omega (arith, c.decreases), (split.listing, (split.few, (split.each, c.requires.drawable))))

pub place_in-place_split-requires-in-VSplit : goal.place_in-place_split-requires-in-VSplit
place_in-place_split-requires-in-VSplit t c =
    let split = columns_split _ c.in-VSplit.field-0 c.args.inner.now (sym (ap (λ (l : Listed). l.node) c.own.view_is) ∙ c.in-VSplit.is) c.requires.few c.requires.inner in
    (omega (arith, c.decreases), (split.listing, (split.few, (split.each, c.requires.drawable))))

pub place_in-returns-then-not-shown : goal.place_in-returns-then-not-shown
place_in-returns-then-not-shown t c =
    let is : c.args.own.now.node ≡ When false c.in-When.field-1 = sym (ap (λ (l : Listed). l.node) c.own.view_is) ∙ c.in-When.is ∙ ap (λ b. When b c.in-When.field-1) c.if-not-shown.true in
    let means = ap (Boxes c.args.self.now.done) is ∙ boxes_absent c.args.self.now.done c.in-When.field-1 in
    adds_by _ _ c.args.area.now c.args.placed.now _ true (sym means) (adds_none (λ answer. answer ≡ Some []) _ _ refl)

pub place_in-first_of-requires : goal.place_in-first_of-requires
place_in-first_of-requires t c =
    let only = shown_part _ c.in-When.field-1 c.args.inner.now (sym (ap (λ (l : Listed). l.node) c.own.view_is) ∙ c.in-When.is ∙ ap (λ b. When b c.in-When.field-1) c.if-not-shown.false) c.requires.inner in
    record { listing = only.listing; some = only.some }

pub place_in-place_in-requires : goal.place_in-place_in-requires
place_in-place_in-requires t c =
    let is : c.args.own.now.node ≡ When true c.in-When.field-1 = sym (ap (λ (l : Listed). l.node) c.own.view_is) ∙ c.in-When.is ∙ ap (λ b. When b c.in-When.field-1) c.if-not-shown.false in
    let only = shown_part _ c.in-When.field-1 c.args.inner.now is c.requires.inner in
    let few = few_When _ _ (subst HasFewChildren is c.requires.few) in
    (omega (arith, c.decreases, c.first_of.ensures.within), (subst HasFewChildren (sym (only.first _ _ c.first_of.ensures)) few, (c.first_of.ensures.inside, c.requires.drawable)))

pub place_in-first_of-requires-in-FloatBox : goal.place_in-first_of-requires-in-FloatBox
place_in-first_of-requires-in-FloatBox t c =
    let only = boxed_part _ c.in-FloatBox.field-0 c.in-FloatBox.floats c.args.inner.now (sym (ap (λ (l : Listed). l.node) c.own.view_is) ∙ c.in-FloatBox.is) c.requires.inner in
    record { listing = only.listing; some = only.some }

pub place_in-place_in-requires-in-FloatBox : goal.place_in-place_in-requires-in-FloatBox
place_in-place_in-requires-in-FloatBox t c =
    let is : c.args.own.now.node ≡ FloatBox c.in-FloatBox.field-0 c.in-FloatBox.floats = sym (ap (λ (l : Listed). l.node) c.own.view_is) ∙ c.in-FloatBox.is in
    let only = boxed_part _ c.in-FloatBox.field-0 c.in-FloatBox.floats c.args.inner.now is c.requires.inner in
    let few = few_FloatBox _ _ (subst HasFewChildren is c.requires.few) in
    (omega (arith, c.decreases, c.first_of-in-FloatBox.ensures.within), (subst HasFewChildren (sym (only.first _ _ c.first_of-in-FloatBox.ensures)) few, (c.first_of-in-FloatBox.ensures.inside, c.requires.drawable)))

pub place_in-returns-in_ok-fits-in-HSplit : goal.place_in-returns-in_ok-fits-in-HSplit
place_in-returns-in_ok-fits-in-HSplit t c =
    let done = c.args.self.now.done in
    let is : c.args.own.now.node ≡ HSplit c.in-HSplit.field-0 = sym (ap (λ (l : Listed). l.node) c.own.view_is) ∙ c.in-HSplit.is in
    let split = rows_split _ c.in-HSplit.field-0 c.args.inner.now is c.requires.few c.requires.inner in
    adds_by _ _ _ _ _ _ (ap (SplitGives Node (λ x. x) (Boxes done) done false) split.tops_are ∙ sym (ap (Boxes done) is ∙ boxes_HSplit done c.in-HSplit.field-0)) c.in_ok-fits-in-HSplit.ensures

pub place_in-returns-in_ok-fits-in-VSplit : goal.place_in-returns-in_ok-fits-in-VSplit
place_in-returns-in_ok-fits-in-VSplit t c =
    let done = c.args.self.now.done in
    let is : c.args.own.now.node ≡ VSplit c.in-VSplit.field-0 = sym (ap (λ (l : Listed). l.node) c.own.view_is) ∙ c.in-VSplit.is in
    let split = columns_split _ c.in-VSplit.field-0 c.args.inner.now is c.requires.few c.requires.inner in
    adds_by _ _ _ _ _ _ (ap (SplitGives Node (λ x. x) (Boxes done) done true) split.tops_are ∙ sym (ap (Boxes done) is ∙ boxes_VSplit done c.in-VSplit.field-0)) c.in_ok-fits-in-VSplit.ensures

pub place_in-returns-in_ok-push-in-Window : goal.place_in-returns-in_ok-push-in-Window
place_in-returns-in_ok-push-in-Window t c =
    let means = ap (Boxes c.args.self.now.done) (sym (ap (λ (l : Listed). l.node) c.own.view_is) ∙ c.in-Window.is) ∙ boxes_Window c.args.self.now.done c.in-Window.pane in
    adds_by _ _ c.args.area.now c.args.placed.now _ true (sym means) (adds_one (λ answer. answer ≡ Some (placed_at c.in-Window.pane c.args.area.now ∷ [])) _ _ _ _ c.in_ok-push-in-Window.ensures.ok (ap (λ (q : PaneFields). Some (record { pane = c.in-Window.pane; scroll = q.scroll; row = c.args.area.now.row; col = c.args.area.now.col; size = c.args.area.now.size } ∷ [])) c.pane.view_is) (record { above = omega arith; below = omega arith; left = omega arith; right = omega arith }))

pub place_in-returns-in_ok-fits-in-When : goal.place_in-returns-in_ok-fits-in-When
place_in-returns-in_ok-fits-in-When t c =
    let is : c.args.own.now.node ≡ When true c.in-When.field-1 = sym (ap (λ (l : Listed). l.node) c.own.view_is) ∙ c.in-When.is ∙ ap (λ b. When b c.in-When.field-1) c.if-not-shown.false in
    let part = (shown_part _ c.in-When.field-1 c.args.inner.now is c.requires.inner).first _ _ c.first_of.ensures in
    adds_by _ _ _ _ _ _ (sym (ap (Boxes c.args.self.now.done) is ∙ boxes_shown _ _ ∙ ap (Boxes c.args.self.now.done) (sym part))) c.in_ok-fits-in-When.ensures

pub place_in-returns-then-not-branch : goal.place_in-returns-then-not-branch
place_in-returns-then-not-branch t c =
    let is : c.args.own.now.node ≡ FloatBox c.in-FloatBox.field-0 c.in-FloatBox.floats = sym (ap (λ (l : Listed). l.node) c.own.view_is) ∙ c.in-FloatBox.is in
    let part = (boxed_part _ c.in-FloatBox.field-0 c.in-FloatBox.floats c.args.inner.now is c.requires.inner).first _ _ c.first_of-in-FloatBox.ensures in
    let none = adds_at (Boxes c.args.self.now.done c.first_of-in-FloatBox.result.0.now.node c.args.area.now) c.args.area.now c.args.placed.now c.place_in-in-FloatBox.new.placed _ false c.if-not-branch.true c.in_ok-place_in-in-FloatBox.ensures in
    subst (λ n. Boxes c.args.self.now.done n c.args.area.now None) (sym is) (box_none _ _ c.in-FloatBox.floats _ (subst (λ n. Boxes c.args.self.now.done n c.args.area.now None) part none))

pub place_in-returns-in_ok-place_floats-in-FloatBox : goal.place_in-returns-in_ok-place_floats-in-FloatBox
place_in-returns-in_ok-place_floats-in-FloatBox t c =
    let done = c.args.self.now.done in
    let area = c.args.area.now in
    let read = c.first_of-in-FloatBox.result.0.now.node in
    let floats = c.as_slice.result.now in
    let is : c.args.own.now.node ≡ FloatBox c.in-FloatBox.field-0 c.in-FloatBox.floats = sym (ap (λ (l : Listed). l.node) c.own.view_is) ∙ c.in-FloatBox.is in
    let part = (boxed_part _ c.in-FloatBox.field-0 c.in-FloatBox.floats c.args.inner.now is c.requires.inner).first _ _ c.first_of-in-FloatBox.ensures in
    let same : c.args.own.now.node ≡ FloatBox read floats = is ∙ (λ i. FloatBox (sym part i) (sym c.as_slice.ensures i)) in
    let under = adds_at (Boxes done read area) area c.args.placed.now c.place_in-in-FloatBox.new.placed _ true c.if-not-branch.false c.in_ok-place_in-in-FloatBox.ensures in
    let added = adds_floats done read floats area c.len-first.result c.args.placed.now c.place_in-in-FloatBox.new.placed c.place_floats.new.placed c.requires.drawable.some c.len-first.ensures under c.in_ok-place_floats-in-FloatBox.ensures in
    subst (λ n. Adds (Boxes done n area) area c.args.placed.now c.place_floats.new.placed true) (sym same) added

pub place_split-divide-requires-clause-parts_in : goal.place_split-divide-requires-clause-parts_in
place_split-divide-requires-clause-parts_in t c =
    let children = tops c.args.children.now in
    let parts = ap length (c.deref.ensures.value ∙ c.in_ok-parts.ensures) in
    omega (arith, parts, length-map (filter (λ x. (asked x).present) children) (wanted c.args.across), filter_short (λ x. (asked x).present) children, c.requires.few)

pub place_parts-returns : goal.place_parts-returns
place_parts-returns t c =
    begun_all _ _ _ _ _ _ _ _ _ _ (ap tops (drop_all c.loop-at.at c.args.children.now c.loop-at-test.false)) c.loop-at.invariant.begun

pub place_parts-returns-then-not-branch : goal.place_parts-returns-then-not-branch
place_parts-returns-then-not-branch t c =
    let kept = c.loop-at.invariant in
    let sizes = c.args.sizes.now in
    let first = c.first_of.result.0.now in
    let on = onward c.args.children.now c.loop-at.at first c.first_of.result.1.now kept.within c.first_of.ensures in
    let here : (asked first.node).present ≡ true = sym (ap (λ (l : Listed). l.asked.present) c.child.view_is ∙ ap (λ (a : Asked). a.present) c.first_of.ensures.asks) ∙ c.if-own.true in
    let within = has_size _ _ sizes c.loop-at.next first.node kept.one_each on.left here in
    begun_ends _ _ _ _ _ _ _ _ _ _ _ c.place_part.new.placed first.node _ on.left here (size_at sizes c.loop-at.next within) kept.begun (adds_at (PartGives c.args.self.now.done c.args.across c.args.area.now first.node c.loop-at.before (get_or sizes c.loop-at.next 0)) c.args.area.now c.loop-at.placed c.place_part.new.placed _ false c.if-not-branch.true c.in_ok-place_part.ensures)

pub place_parts-loop-at-preserved : goal.place_parts-loop-at-preserved
place_parts-loop-at-preserved t c =
    let kept = c.loop-at.invariant in
    let sizes = c.args.sizes.now in
    let next = c.loop-at.next in
    let first = c.first_of.result.0.now in
    let on = onward c.args.children.now c.loop-at.at first c.first_of.result.1.now kept.within c.first_of.ensures in
    let own : c.child.inside.asked.present ≡ (asked first.node).present = ap (λ (l : Listed). l.asked.present) c.child.view_is ∙ ap (λ (a : Asked). a.present) c.first_of.ensures.asks in
    record {
      within = on.within;
      listing = on.listing;
      few = (subst (EachChild Node HasFewChildren) on.left kept.few).1;
      one_each = elim c.if-own.branch [
        | place_parts-then-own+in_ok-place_part+else-not-branch w ↦ lengths_more _ _ sizes next _ first.node w.next-is kept.one_each on.left (sym own ∙ w.if-own.true)
        | place_parts-else-own w ↦ lengths_same _ _ sizes next _ first.node w.next-is kept.one_each on.left (sym own ∙ w.if-own.false)
      ];
      room = elim c.if-own.branch [
        | place_parts-then-own+in_ok-place_part+else-not-branch w ↦ room_more sizes next _ c.loop-at.before _ _ (has_size _ _ sizes next first.node kept.one_each on.left (sym own ∙ w.if-own.true)) w.next-is w.before-is kept.room
        | place_parts-else-own w ↦ room_same sizes next _ c.loop-at.before _ _ w.next-is w.before-is kept.room
      ];
      begun = elim c.if-own.branch [
        | place_parts-then-own+in_ok-place_part+else-not-branch w ↦
            let here = sym own ∙ w.if-own.true in
            let within = has_size _ _ sizes next first.node kept.one_each on.left here in
            moved _ _ _ _ _ _ _ _ _ _ _ _ _ (begun_more _ _ _ _ sizes _ _ next c.loop-at.before _ _ _ first.node _ on.left here (size_at sizes next within) kept.begun (adds_at (PartGives c.args.self.now.done c.args.across c.args.area.now first.node c.loop-at.before (get_or sizes next 0)) c.args.area.now c.loop-at.placed w.place_part.new.placed _ true w.if-not-branch.false w.in_ok-place_part.ensures)) w.next-is w.before-is w.placed-is
        | place_parts-else-own w ↦ moved _ _ _ _ _ _ _ _ _ _ _ _ _ (begun_same _ _ _ _ sizes _ _ next c.loop-at.before _ _ first.node on.left (sym own ∙ w.if-own.false) kept.begun) w.next-is w.before-is w.placed-is
      ];
    }
