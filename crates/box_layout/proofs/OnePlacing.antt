-- A layout has one placing in an area.
use Rattle.std.proofs.Common.{Bool, true, false, ℕ, zero, suc, ◌≡◌, ◌+◌, ◌⊎◌, inl, inr, refl, sym, ◌∙◌, ap, subst, List, [], ◌∷◌, ◌++◌, map, filter, Option, None, Some, arith}
use Rattle.std.specs.Prelude.{zip, option_map}
use Rattle.layout_dims.proofs.OneDivision.{one_division}
use Rattle.box_layout.specs.declared.areas.Area.{Area}
use Rattle.box_layout.specs.declared.nodes.Float.{Float}
use Rattle.box_layout.specs.declared.nodes.Node.{Node}
use Rattle.box_layout.specs.declared.nodes.Node.TheOpen as layer
use Rattle.box_layout.specs.declared.nodes.Node.TheViews.{roll-Node}
use Rattle.box_layout.specs.declared.nodes.Node.TheVariants.{rolls-HSplit, rolls-VSplit, rolls-Window, rolls-When, rolls-FloatBox}
use Rattle.box_layout.specs.declared.nodes.Node.TheFolds.{map-Node, ind-Node}
use Rattle.box_layout.specs.Areas.{room_of}
use Rattle.box_layout.specs.Boxes.{Boxes, Meaning, InTurn, SplitGives}
use Rattle.box_layout.specs.Children.{EachChild}
use Rattle.box_layout.specs.Floats.{with_floats}
use Rattle.box_layout.specs.Placed.{PlacedFields}
use Rattle.box_layout.proofs.Asking.{IsPresent, parts_along}
use Rattle.box_layout.proofs.Lists.{picked, passed}
use Rattle.box_layout.proofs.Placing.{boxes_HSplit, boxes_VSplit, boxes_Window, boxes_shown, boxes_absent, boxes_FloatBox}

-- a meaning that has at most one answer in each area
abbrev pub HasOne : Meaning → Type 0
HasOne means = (area : Area) (one other : Option (List PlacedFields)) → means area one → means area other → one ≡ other

-- what holds of each child holds of each that stands in the split
kept_each : (P : Node → Type 0) (child : Node) (children : List Node) (b : Bool) → IsPresent child ≡ b → P child → EachChild Node P (filter IsPresent children) → EachChild Node P (filter IsPresent (child ∷ children))
kept_each P child children true e one rest = subst (EachChild Node P) (sym (picked IsPresent child children e)) (one, rest)
kept_each P child children false e one rest = subst (EachChild Node P) (sym (passed IsPresent child children e)) rest

each_present : (P : Node → Type 0) (children : List Node) → EachChild Node P children → EachChild Node P (filter IsPresent children)
each_present P [] each = tt
each_present P (child ∷ children) each = kept_each P child children (IsPresent child) refl each.0 (each_present P children each.1)

-- too little room and panes are never told together
not_both : {first : List PlacedFields} → None ≡ Some first → ⊥
not_both e = cc

pub same_placed : (one other : List PlacedFields) → Some one ≡ Some other → one ≡ other
same_placed one other e = cc

joined : (first first' : List PlacedFields) (others others' answer answer' : Option (List PlacedFields)) → first ≡ first' → others ≡ others' → answer ≡ option_map (λ more. first ++ more) others → answer' ≡ option_map (λ more. first' ++ more) others' → answer ≡ answer'
joined first first' others others' answer answer' f o e e' =
    e ∙ ap (option_map (λ more. first ++ more)) o ∙ ap (λ (l : List PlacedFields). option_map (λ more. l ++ more) others') f ∙ sym e'

-- children in turn have one answer where each of them has
one_in_turn : (k : Node → Meaning) (across : Bool) (area : Area) (children : List Node) (sizes : List ℕ) (before : ℕ) (one other : Option (List PlacedFields)) → EachChild Node (λ n. HasOne (k n)) children → InTurn Node k across area (zip children sizes) before one → InTurn Node k across area (zip children sizes) before other → one ≡ other
one_in_turn k across area [] sizes before one other each h h' = h ∙ sym h'
one_in_turn k across area (child ∷ children) [] before one other each h h' = h ∙ sym h'
one_in_turn k across area (child ∷ children) (zero ∷ sizes) before one other each h h' = one_in_turn k across area children sizes before one other each.1 h h'
one_in_turn k across area (child ∷ children) (suc less ∷ sizes) before one other each (inl h) (inl h') = h.1 ∙ sym h'.1
one_in_turn k across area (child ∷ children) (suc less ∷ sizes) before one other each (inl h) (inr h') = absurd (not_both (each.0 _ None (Some h'.0) h.0 h'.1))
one_in_turn k across area (child ∷ children) (suc less ∷ sizes) before one other each (inr h) (inl h') = absurd (not_both (each.0 _ None (Some h.0) h'.0 h.1))
one_in_turn k across area (child ∷ children) (suc less ∷ sizes) before one other each (inr h) (inr h') =
    joined h.0 h'.0 h.2.0 h'.2.0 one other (same_placed h.0 h'.0 (each.0 _ (Some h.0) (Some h'.0) h.1 h'.1))
    (one_in_turn k across area children sizes (before + suc less) h.2.0 h'.2.0 each.1 h.2.1 h'.2.1) h.2.2 h'.2.2

-- a split has one answer where each child has
one_split : (k : Node → Meaning) (done across : Bool) (children : List Node) → EachChild Node (λ n. HasOne (k n)) children → HasOne (SplitGives Node (λ y. y) k done across children)
one_split k done across children each area one other (inl h) (inl h') = h.1 ∙ sym h'.1
one_split k done across children each area one other (inl h) (inr h') = absurd (omega (arith, h'.0, h.0))
one_split k done across children each area one other (inr h) (inl h') = absurd (omega (arith, h.0, h'.0))
one_split k done across children each area one other (inr h) (inr h') =
    let sizes : h'.1.0 ≡ h.1.0 = one_division (parts_along across children) (room_of across area) done h'.1.0 h.1.0 h'.1.1 h.1.1 in
    one_in_turn k across area (filter IsPresent children) h.1.0 0 one other (each_present (λ n. HasOne (k n)) children each) h.1.2
    (subst (λ (l : List ℕ). InTurn Node k across area (zip (filter IsPresent children) l) 0 other) sizes h'.1.2)

one_box : (means : Meaning) (floats : List Float) → HasOne means → HasOne (λ area answer. (means area None × (answer ≡ None)) ⊎ ((under : List PlacedFields) × means area (Some under) × (answer ≡ Some (with_floats area under floats))))
one_box means floats inner area one other (inl h) (inl h') = h.1 ∙ sym h'.1
one_box means floats inner area one other (inl h) (inr h') = absurd (not_both (inner area None (Some h'.0) h.0 h'.1))
one_box means floats inner area one other (inr h) (inl h') = absurd (not_both (inner area None (Some h.0) h'.0 h.1))
one_box means floats inner area one other (inr h) (inr h') =
    h.2 ∙ ap (λ (l : List PlacedFields). Some (with_floats area l floats)) (same_placed h.0 h'.0 (inner area (Some h.0) (Some h'.0) h.1 h'.1)) ∙ sym h'.2

abbrev HasOnePlacing : Bool → Node → Type 0
HasOnePlacing done node = HasOne (Boxes done node)

-- what was shown of each node of a list
each_shown : (P : Node → Type 0) (es : List ((n : Node) × P n)) → EachChild Node P (map (λ e. e.0) es)
each_shown P [] = tt
each_shown P (e ∷ es) = (e.1, each_shown P es)

one_at : (done : Bool) (y : layer.Node-F ((n : Node) × HasOnePlacing done n)) → HasOnePlacing done (roll-Node (map-Node ((n : Node) × HasOnePlacing done n) Node (λ e. e.0) y))
one_at done (layer.HSplit es) =
    let children = map (λ (e : (n : Node) × HasOnePlacing done n). e.0) es in
    subst HasOne (sym (ap (Boxes done) (rolls-HSplit children) ∙ boxes_HSplit done children))
    (one_split (Boxes done) done false children (each_shown (HasOnePlacing done) es))
one_at done (layer.VSplit es) =
    let children = map (λ (e : (n : Node) × HasOnePlacing done n). e.0) es in
    subst HasOne (sym (ap (Boxes done) (rolls-VSplit children) ∙ boxes_VSplit done children))
    (one_split (Boxes done) done true children (each_shown (HasOnePlacing done) es))
one_at done (layer.Window pane) =
    subst HasOne (sym (ap (Boxes done) (rolls-Window pane) ∙ boxes_Window done pane)) (λ area one other h h'. h ∙ sym h')
one_at done (layer.When true e) =
    subst HasOne (sym (ap (Boxes done) (rolls-When true e.0) ∙ boxes_shown done e.0)) e.1
one_at done (layer.When false e) =
    subst HasOne (sym (ap (Boxes done) (rolls-When false e.0) ∙ boxes_absent done e.0)) (λ area one other h h'. h ∙ sym h')
one_at done (layer.FloatBox e floats) =
    subst HasOne (sym (ap (Boxes done) (rolls-FloatBox e.0 floats) ∙ boxes_FloatBox done e.0 floats))
    (one_box (Boxes done e.0) floats e.1)

one_by : (done : Bool) (node : Node) → HasOnePlacing done node
one_by done = ind-Node (HasOnePlacing done) (λ x y is. subst (λ z. HasOnePlacing done (roll-Node z)) is (one_at done y))

pub one_placing : (done : Bool) (node : Node) (area : Area) (one other : Option (List PlacedFields)) → Boxes done node area one → Boxes done node area other → one ≡ other
one_placing done node area one other = one_by done node area one other
