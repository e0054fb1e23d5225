-- The windows of a node lie inside its area.
use Rattle.std.proofs.Common.{Bool, true, false, ℕ, zero, suc, ◌≡◌, ◌+◌, ◌≤◌, ◌⊎◌, inl, inr, refl, sym, ◌∙◌, ap, subst, List, [], ◌∷◌, ◌++◌, map, filter, All, add-zero, Option, None, Some, arith}
use Rattle.std.proofs.lemmas.List.Elements.{All-append, All-cons, All-filter, All-head, All-nil, All-tail, All-weaker}
use Rattle.std.specs.Prelude.{zip, option_map}
use Rattle.box_layout.specs.declared.areas.Area.{Area}
use Rattle.box_layout.specs.declared.nodes.Float.{Float}
use Rattle.box_layout.specs.declared.nodes.Node.{Node}
use Rattle.box_layout.specs.declared.nodes.Node.TheOpen as layer
use Rattle.box_layout.specs.declared.nodes.Node.TheViews.{roll-Node}
use Rattle.box_layout.specs.declared.nodes.Node.TheVariants.{rolls-HSplit, rolls-VSplit, rolls-Window, rolls-When, rolls-FloatBox}
use Rattle.box_layout.specs.declared.nodes.Node.TheFolds.{map-Node, ind-Node}
use Rattle.box_layout.specs.Areas.{IsInside, part_of}
use Rattle.box_layout.specs.Boxes.{Boxes, Meaning, InTurn, SplitGives}
use Rattle.box_layout.specs.Floats.{with_floats}
use Rattle.box_layout.specs.Panes.{PaneFields}
use Rattle.box_layout.specs.Parts.{parts_from}
use Rattle.box_layout.specs.Placed.{PlacedFields, AllInside, area_of, placed_at}
use Rattle.box_layout.proofs.Asking.{IsPresent, parts_along}
use Rattle.box_layout.proofs.FloatAreas.{floats_inside}
use Rattle.box_layout.proofs.OnePlacing.{same_placed}
use Rattle.box_layout.proofs.PartLaws.{all_inside}
use Rattle.box_layout.proofs.Placing.{boxes_HSplit, boxes_VSplit, boxes_Window, boxes_shown, boxes_absent, boxes_FloatBox}

-- a meaning whose windows lie inside each area that has a row
abbrev StaysInside : Meaning → Type 0
StaysInside means = (area : Area) (placed : List PlacedFields) → 1 ≤ area.size.rows → means area (Some placed) → AllInside area placed

inside_transitive : (outer middle inner : Area) → IsInside outer middle → IsInside middle inner → IsInside outer inner
inside_transitive outer middle inner o i = record { above = omega arith; below = omega arith; left = omega arith; right = omega arith }

-- what lies inside a part lies inside the whole
all_inside_outer : (outer middle : Area) (placed : List PlacedFields) → IsInside outer middle → AllInside middle placed → AllInside outer placed
all_inside_outer outer middle placed o all =
    All-weaker (λ q. IsInside middle (area_of q)) (λ q. IsInside outer (area_of q)) (λ q i. inside_transitive outer middle (area_of q) o i) placed all

-- windows behind others lie inside where both do
joined_inside : (area : Area) (first placed : List PlacedFields) (others : Option (List PlacedFields)) → AllInside area first → ((more : List PlacedFields) → others ≡ Some more → AllInside area more) → Some placed ≡ option_map (λ more. first ++ more) others → AllInside area placed
joined_inside area first placed None inside rest e = cc
joined_inside area first placed (Some more) inside rest e =
    subst (AllInside area) (sym (same_placed placed (first ++ more) e))
    (All-append (λ q. IsInside area (area_of q)) first more inside (rest more refl))

none_inside : (area : Area) (placed : List PlacedFields) → Some placed ≡ Some [] → AllInside area placed
none_inside area placed e = subst (AllInside area) (sym (same_placed placed [] e)) (All-nil (λ q. IsInside area (area_of q)))

part_has_row : (across : Bool) (area : Area) (before less : ℕ) → 1 ≤ area.size.rows → 1 ≤ (part_of across area before (suc less)).size.rows
part_has_row true area before less some = some
part_has_row false area before less some = omega arith

-- children in turn stay inside the area where each stays inside its part, and the parts inside the area
turns_inside : (k : Node → Meaning) (across : Bool) (area : Area) (children : List Node) (sizes : List ℕ) (before : ℕ) (answer : Option (List PlacedFields)) → 1 ≤ area.size.rows → All (λ n. StaysInside (k n)) children → All (IsInside area) (parts_from across area before sizes) → InTurn Node k across area (zip children sizes) before answer → (placed : List PlacedFields) → answer ≡ Some placed → AllInside area placed
turns_inside k across area [] sizes before answer some each parts h placed e = none_inside area placed (sym e ∙ h)
turns_inside k across area (child ∷ children) [] before answer some each parts h placed e = none_inside area placed (sym e ∙ h)
turns_inside k across area (child ∷ children) (zero ∷ sizes) before answer some each parts h placed e =
    turns_inside k across area children sizes before answer some (All-tail (λ n. StaysInside (k n)) child children each)
    (subst (λ (n : ℕ). All (IsInside area) (parts_from across area n sizes)) (add-zero before) (All-tail (IsInside area) (part_of across area before zero) (parts_from across area (before + zero) sizes) parts)) h placed e
turns_inside k across area (child ∷ children) (suc less ∷ sizes) before answer some each parts (inl h) placed e = let none : Some placed ≡ None = sym e ∙ h.1 in cc
turns_inside k across area (child ∷ children) (suc less ∷ sizes) before answer some each parts (inr h) placed e =
    let part = part_of across area before (suc less) in
    let one = All-head (λ n. StaysInside (k n)) child children each part h.0 (part_has_row across area before less some) h.1 in
    joined_inside area h.0 placed h.2.0
    (all_inside_outer area part h.0 (All-head (IsInside area) part (parts_from across area (before + suc less) sizes) parts) one)
    (turns_inside k across area children sizes (before + suc less) h.2.0 some (All-tail (λ n. StaysInside (k n)) child children each) (All-tail (IsInside area) part (parts_from across area (before + suc less) sizes) parts) h.2.1)
    (sym e ∙ h.2.2)

split_inside : (k : Node → Meaning) (done across : Bool) (children : List Node) → All (λ n. StaysInside (k n)) children → StaysInside (SplitGives Node (λ y. y) k done across children)
split_inside k done across children each area placed some (inl h) = let none : Some placed ≡ None = h.1 in cc
split_inside k done across children each area placed some (inr h) =
    turns_inside k across area (filter IsPresent children) h.1.0 0 (Some placed) some (All-filter IsPresent (λ n. StaysInside (k n)) children each)
    (all_inside across done area (parts_along across children) h.1.0 h.1.1) h.1.2 placed refl

box_inside : (means : Meaning) (floats : List Float) → StaysInside means → StaysInside (λ area answer. (means area None × (answer ≡ None)) ⊎ ((under : List PlacedFields) × means area (Some under) × (answer ≡ Some (with_floats area under floats))))
box_inside means floats inner area placed some (inl h) = let none : Some placed ≡ None = h.1 in cc
box_inside means floats inner area placed some (inr h) =
    subst (AllInside area) (sym (same_placed placed (with_floats area h.0 floats) h.2)) (floats_inside area h.0 floats some (inner area h.0 some h.1))

window_inside : (pane : PaneFields) → StaysInside (λ area answer. answer ≡ Some (placed_at pane area ∷ []))
window_inside pane area placed some e =
    let whole : IsInside area area = record { above = omega arith; below = omega arith; left = omega arith; right = omega arith } in
    subst (AllInside area) (sym (same_placed placed (placed_at pane area ∷ []) e))
    (All-cons (λ q. IsInside area (area_of q)) (placed_at pane area) [] whole (All-nil (λ q. IsInside area (area_of q))))

-- what was shown of each node of a list
each_shown : (P : Node → Type 0) (es : List ((n : Node) × P n)) → All P (map (λ e. e.0) es)
each_shown P [] = All-nil P
each_shown P (e ∷ es) = All-cons P e.0 (map (λ (x : (n : Node) × P n). x.0) es) e.1 (each_shown P es)

abbrev NodeStays : Bool → Node → Type 0
NodeStays done node = StaysInside (Boxes done node)

inside_at : (done : Bool) (y : layer.Node-F ((n : Node) × NodeStays done n)) → NodeStays done (roll-Node (map-Node ((n : Node) × NodeStays done n) Node (λ e. e.0) y))
inside_at done (layer.HSplit es) =
    let children = map (λ (e : (n : Node) × NodeStays done n). e.0) es in
    subst StaysInside (sym (ap (Boxes done) (rolls-HSplit children) ∙ boxes_HSplit done children))
    (split_inside (Boxes done) done false children (each_shown (NodeStays done) es))
inside_at done (layer.VSplit es) =
    let children = map (λ (e : (n : Node) × NodeStays done n). e.0) es in
    subst StaysInside (sym (ap (Boxes done) (rolls-VSplit children) ∙ boxes_VSplit done children))
    (split_inside (Boxes done) done true children (each_shown (NodeStays done) es))
inside_at done (layer.Window pane) =
    subst StaysInside (sym (ap (Boxes done) (rolls-Window pane) ∙ boxes_Window done pane)) (window_inside pane)
inside_at done (layer.When true e) =
    subst StaysInside (sym (ap (Boxes done) (rolls-When true e.0) ∙ boxes_shown done e.0)) e.1
inside_at done (layer.When false e) =
    subst StaysInside (sym (ap (Boxes done) (rolls-When false e.0) ∙ boxes_absent done e.0)) (λ area placed some h. none_inside area placed h)
inside_at done (layer.FloatBox e floats) =
    subst StaysInside (sym (ap (Boxes done) (rolls-FloatBox e.0 floats) ∙ boxes_FloatBox done e.0 floats))
    (box_inside (Boxes done e.0) floats e.1)

inside_by : (done : Bool) (node : Node) → NodeStays done node
inside_by done = ind-Node (NodeStays done) (λ x y is. subst (λ z. NodeStays done (roll-Node z)) is (inside_at done y))

pub windows_inside : (done : Bool) (node : Node) (area : Area) (placed : List PlacedFields) → 1 ≤ area.size.rows → Boxes done node area (Some placed) → AllInside area placed
windows_inside done node area placed some gives = inside_by done node area placed some gives
