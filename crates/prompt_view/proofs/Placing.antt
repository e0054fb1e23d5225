-- Where the windows of a scene stand: what the buffer's box gives, and that all lie inside the drawing.
use Rattle.std.proofs.Common.{Bool, false, codes, ℕ, ◌≡◌, ◌+◌, ◌≤◌, ◌⊎◌, inl, inr, sym, ◌∙◌, ap, subst, List, [], ◌∷◌, ◌++◌, length, Option, None, Some, arith}
use Rattle.std.proofs.lemmas.List.Elements.{All-append, All-cons, All-nil, All-weaker}
use Rattle.cell_grid.specs.declared.attrs.Attrs.{Attrs}
use Rattle.cell_grid.specs.Attrs.{plain}
use Rattle.cell_grid.specs.Size.{Extent}
use Rattle.layout_dims.specs.Numbers.{Numbers}
use Rattle.win_view.specs.declared.contents.Content.{Content}
use Rattle.win_view.specs.declared.scrolls.Scroll.{Scroll}
use Rattle.box_layout.specs.declared.areas.Area.{Area}
use Rattle.box_layout.specs.declared.nodes.Float.{Float}
use Rattle.box_layout.specs.declared.nodes.Node.{Node}
use Rattle.box_layout.specs.declared.nodes.Node.TheVariants.{FloatBox, Window}
use Rattle.box_layout.specs.Areas.{IsInside, whole}
use Rattle.box_layout.specs.Boxes.{Boxes, Meaning}
use Rattle.box_layout.specs.Children.{HasFewChildren}
use Rattle.box_layout.specs.Floats.{with_floats}
use Rattle.box_layout.specs.Panes.{PaneFields}
use Rattle.box_layout.specs.Placed.{AllInside, PlacedFields, area_of, placed_at}
use Rattle.box_layout.proofs.Few.{few_at_FloatBox, few_at_Window}
use Rattle.box_layout.proofs.OnePlacing.{same_placed}
use Rattle.box_layout.proofs.Placing.{boxes_FloatBox, boxes_Window}
use Rattle.prompt_view.specs.Bars.{stacked_from, text_cells, unscrolled}
use Rattle.prompt_view.specs.Drawing.{box_of, buffer_pane, from_one, placed_box, small_pane}
use Rattle.prompt_view.specs.Floats.{floats}
use Rattle.prompt_view.specs.Rooms.{window_of}
use Rattle.prompt_view.specs.Scene.{SceneFields}

-- a window with floats has no split
pub few_in_box : (pane : PaneFields) (floats : List Float) → HasFewChildren (FloatBox (Window pane) floats)
few_in_box pane floats = subst (λ (fact : Type 0). fact) (sym (few_at_FloatBox (Window pane) floats ∙ few_at_Window pane)) tt

pub window_gives : (done : Bool) (pane : PaneFields) (area : Area) (answer : Option (List PlacedFields)) → Boxes done (Window pane) area answer → answer ≡ Some (placed_at pane area ∷ [])
window_gives done pane area answer gives = subst (λ (means : Meaning). means area answer) (boxes_Window done pane) gives

by_inner : (done : Bool) (pane : PaneFields) (floats : List Float) (area : Area) (answer : Option (List PlacedFields)) → (Boxes done (Window pane) area None × (answer ≡ None)) ⊎ ((under : List PlacedFields) × Boxes done (Window pane) area (Some under) × (answer ≡ Some (with_floats area under floats))) → answer ≡ Some (with_floats area (placed_at pane area ∷ []) floats)
by_inner done pane floats area answer (inl none) =
    let never : None ≡ Some (placed_at pane area ∷ []) = window_gives done pane area None none.0 in cc
by_inner done pane floats area answer (inr some) =
    let under : some.0 ≡ placed_at pane area ∷ [] = same_placed some.0 (placed_at pane area ∷ []) (window_gives done pane area (Some some.0) some.1) in
    some.2 ∙ ap (λ (placed : List PlacedFields). Some (with_floats area placed floats)) under

-- it gives this window, and the floats over it
pub box_gives : (done : Bool) (pane : PaneFields) (floats : List Float) (area : Area) (answer : Option (List PlacedFields)) → Boxes done (FloatBox (Window pane) floats) area answer → answer ≡ Some (with_floats area (placed_at pane area ∷ []) floats)
box_gives done pane floats area answer gives =
    by_inner done pane floats area answer (subst (λ (means : Meaning). means area answer) (boxes_FloatBox done (Window pane) floats) gives)

pub placed_gives : (s : SceneFields) (node : Node) (size : Extent) (found : Option (List PlacedFields)) → node ≡ box_of s → size ≡ window_of s → Boxes false node (whole size) found → found ≡ Some (placed_box s)
placed_gives s node size found is here gives =
    box_gives false (buffer_pane s) (floats s) (whole (window_of s)) found
    (subst (λ (extent : Extent). Boxes false (box_of s) (whole extent) found) here (subst (λ (n : Node). Boxes false n (whole size) found) is gives))

-- windows of one row lie inside a drawing that has a row for each of them
stacked_inside : (size : Extent) (row : ℕ) (panes : List PaneFields) → row + length panes ≤ size.rows → AllInside (whole size) (stacked_from size.cols row panes)
stacked_inside size row [] fits = All-nil (λ (p : PlacedFields). IsInside (whole size) (area_of p))
stacked_inside size row (pane ∷ panes) fits =
    All-cons (λ (p : PlacedFields). IsInside (whole size) (area_of p)) (placed_at pane (record { row = row; col = 0; size = record { rows = 1; cols = size.cols } })) (stacked_from size.cols (row + 1) panes)
    (record { above = omega arith; below = omega (arith, fits); left = omega arith; right = omega arith })
    (stacked_inside size (row + 1) panes (omega (arith, fits)))

higher : (window drawn : Extent) → window.cols ≡ drawn.cols → window.rows ≤ drawn.rows → (p : PlacedFields) → IsInside (whole window) (area_of p) → IsInside (whole drawn) (area_of p)
higher window drawn cols rows p inside =
    record { above = omega arith; below = omega (arith, inside.below, rows); left = omega arith; right = omega (arith, inside.right, cols) }

-- so do the windows of a box above them
pub all_inside : (window drawn : Extent) (under all : List PlacedFields) (panes : List PaneFields) → window.cols ≡ drawn.cols → window.rows + length panes ≡ drawn.rows → AllInside (whole window) under → all ≡ under ++ stacked_from window.cols window.rows panes → AllInside (whole drawn) all
all_inside window drawn under all panes cols rows inside is =
    let below : AllInside (whole drawn) (stacked_from window.cols window.rows panes) =
    subst (λ (n : ℕ). AllInside (whole drawn) (stacked_from n window.rows panes)) (sym cols) (stacked_inside drawn window.rows panes (omega (arith, rows))) in
    let above : AllInside (whole drawn) under =
    All-weaker (λ (p : PlacedFields). IsInside (whole window) (area_of p)) (λ (p : PlacedFields). IsInside (whole drawn) (area_of p)) (higher window drawn cols (omega (arith, rows))) under inside in
    subst (AllInside (whole drawn)) (sym is)
    (All-append (λ (p : PlacedFields). IsInside (whole drawn) (area_of p)) under (stacked_from window.cols window.rows panes) above below)

-- one window that takes all
pub one_inside : (size : Extent) (pane : PaneFields) (all : List PlacedFields) → all ≡ placed_at pane (whole size) ∷ [] → AllInside (whole size) all
one_inside size pane all is =
    subst (AllInside (whole size)) (sym is)
    (All-cons (λ (p : PlacedFields). IsInside (whole size) (area_of p)) (placed_at pane (whole size)) []
    (record { above = omega arith; below = omega arith; left = omega arith; right = omega arith })
    (All-nil (λ (p : PlacedFields). IsInside (whole size) (area_of p))))

-- the window that stands where no other fits
pub small_is : (attrs : Attrs) (content : Content) (scroll : Scroll) (width height : Numbers) → attrs ≡ plain → content ≡ record { lines = text_cells attrs attrs (codes "Window too small...") ∷ []; line = 0; cell = 0; wrap = false } → scroll ≡ unscrolled → width ≡ from_one 1 → height ≡ from_one 1 → record { content = content; scroll = scroll; width = width; height = height; attrs = attrs; focus = false } ≡ small_pane
small_is attrs content scroll width height plainly is still across down =
    let with_attrs : Attrs → Content = λ own. record { lines = text_cells own own (codes "Window too small...") ∷ []; line = 0; cell = 0; wrap = false } in
    let shown : content ≡ with_attrs plain = is ∙ ap with_attrs plainly in
    λ i. record { content = shown i; scroll = still i; width = across i; height = down i; attrs = plainly i; focus = false }
