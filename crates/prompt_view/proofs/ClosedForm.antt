-- What the placing of a scene's layout answers is the closed form.
use Prim.Native.Nat.{suc}
use Rattle.std.proofs.Common.{Bool, true, false, ℕ, ◌≡◌, ◌+◌, ◌-◌, ◌<◌, ◌≤◌, ◌⊎◌, inl, inr, min, max, refl, sym, ◌∙◌, ap, subst, List, [], ◌∷◌, ◌++◌, length, map, filter, replicate, sum, Option, None, Some, arith, length-append}
use Rattle.std.specs.Prelude.{codes, flat_map, if◌then◌else◌, option_map, zip}
use Rattle.std.proofs.lemmas.List.{length-map}
use Rattle.std.proofs.lemmas.List.Folds.{sum_by-replicate}
use Rattle.std.proofs.lemmas.List.Sums.{sum_by-cons}
use Rattle.std.proofs.lemmas.Bool.{leb-false, leb-true}
use Rattle.cell_grid.specs.declared.attrs.Attrs.{Attrs}
use Rattle.cell_grid.specs.declared.cell.Cell.{Cell}
use Rattle.cell_grid.specs.Size.{IsScreen}
use Rattle.layout_dims.specs.Numbers.{Numbers, sum_of}
use Rattle.layout_dims.specs.Division.{Division, minima_of}
use Rattle.win_view.specs.Contents.{content_rows, rows_by}
use Rattle.win_view.specs.Rows.{rows_of}
use Rattle.win_view.specs.Settling.{settled}
use Rattle.win_view.proofs.RowCounts.{rows_of-some}
use Rattle.text_doc.specs.Lines.{lines_of}
use Rattle.text_rows.specs.DrawnText.{TextFields}
use Rattle.text_rows.specs.Lines.{drawn_lines, lines_from}
use Rattle.text_rows.proofs.LineCuts.{some_lines}
use Rattle.box_layout.specs.declared.areas.Area.{Area}
use Rattle.box_layout.specs.declared.nodes.Float.{Float}
use Rattle.box_layout.specs.declared.nodes.Node.{Node}
use Rattle.box_layout.specs.declared.nodes.Node.TheOpen as layer
use Rattle.box_layout.specs.declared.nodes.Node.TheVariants.{Window, rolls-Window}
use Rattle.box_layout.specs.declared.nodes.Node.TheFolds.{fold-roll-Node}
use Rattle.box_layout.specs.Areas.{part_of, whole}
use Rattle.box_layout.specs.Asked.{asked, asked_by, wanted}
use Rattle.box_layout.specs.Boxes.{Boxes, InTurn, Meaning, SplitGives}
use Rattle.box_layout.specs.Children.{EachChild, HasFewChildren}
use Rattle.box_layout.specs.Floats.{float_area, with_floats, with_pane}
use Rattle.box_layout.specs.Panes.{PaneFields}
use Rattle.box_layout.specs.Placed.{PlacedFields, placed_at}
use Rattle.box_layout.proofs.Asking.{IsPresent, asked_FloatBox, asked_HSplit, here, parts_along}
use Rattle.box_layout.proofs.Few.{few_at_HSplit, few_at_Window}
use Rattle.box_layout.proofs.Lists.{picked}
use Rattle.box_layout.proofs.OnePlacing.{same_placed}
use Rattle.box_layout.proofs.Placing.{boxes_HSplit}
use Rattle.prompt_view.specs.Bars.{bar, bar_pane, bar_panes, bars, exactly, going_bars, labelled, search_text, stacked_from}
use Rattle.prompt_view.specs.Drawing.{box_of, buffer_pane, drawn_size, from_one, placed_box, placed_of}
use Rattle.prompt_view.specs.Floats.{floats}
use Rattle.prompt_view.specs.Layout.{closed_places, layout_of, scroll_in}
use Rattle.prompt_view.specs.Lines.{content_of, drawn_text}
use Rattle.prompt_view.specs.Rooms.{asked_rows, has_division, height_of, keeps_rows, room_of, settled_scroll, window_of}
use Rattle.prompt_view.specs.Scene.{SceneFields}
use Rattle.prompt_view.proofs.Divisions.{division_is, least_of, parts_with}
use Rattle.prompt_view.proofs.Placing.{box_gives, few_in_box, window_gives}

-- ---- what the children ask for

asked_Window : (pane : PaneFields) → asked (Window pane) ≡ here pane.height pane.width
asked_Window pane = ap asked (sym (rolls-Window pane)) ∙ fold-roll-Node _ asked_by (layer.Window pane)

window_there : (pane : PaneFields) → IsPresent (Window pane) ≡ true
window_there pane = λ i. (asked_Window pane i).present

windows_there : (panes : List PaneFields) → filter IsPresent (map Window panes) ≡ map Window panes
windows_there [] = refl
windows_there (pane ∷ panes) =
    picked IsPresent (Window pane) (map Window panes) (window_there pane) ∙ ap (λ (nodes : List Node). Window pane ∷ nodes) (windows_there panes)

box_asks : (s : SceneFields) → asked (box_of s) ≡ here (from_one (asked_rows s)) (from_one 1)
box_asks s =
    asked_FloatBox (Window (buffer_pane s)) (floats s)
    ∙ (λ i. here (asked_Window (buffer_pane s) i).rows (asked_Window (buffer_pane s) i).cols)

children_there : (s : SceneFields) → filter IsPresent (box_of s ∷ map Window (bar_panes s)) ≡ box_of s ∷ map Window (bar_panes s)
children_there s =
    picked IsPresent (box_of s) (map Window (bar_panes s)) (λ i. (box_asks s i).present)
    ∙ ap (λ (nodes : List Node). box_of s ∷ nodes) (windows_there (bar_panes s))

bars_ask : (s : SceneFields) (those : List (Attrs × List ℕ)) → map (wanted false) (map Window (map (bar_pane s) those)) ≡ replicate (length those) (exactly 1)
bars_ask s [] = refl
bars_ask s (one ∷ those) = λ i. (asked_Window (bar_pane s one) i).rows ∷ bars_ask s those i

children_ask : (s : SceneFields) → map (wanted false) (filter IsPresent (box_of s ∷ map Window (bar_panes s))) ≡ parts_with (asked_rows s) (length (bars s))
children_ask s =
    ap (map (wanted false)) (children_there s)
    ∙ (λ i. (box_asks s i).rows ∷ bars_ask s (bars s) i)

-- ---- the height

lines_some : (t : TextFields) (before : List Cell) (start : ℕ) (lines : List (List ℕ)) → 1 ≤ length lines → 1 ≤ length (lines_from t before start lines)
lines_some t before start [] some = absurd (omega (arith, some))
lines_some t before start (line ∷ []) some = omega arith
lines_some t before start (line ∷ next ∷ lines) some = omega arith

rows_some : (wrap : Bool) (width : ℕ) (lines : List (List Cell)) → 1 ≤ length lines → 1 ≤ length (rows_by wrap width lines)
rows_some false width lines some = some
rows_some true width [] some = absurd (omega (arith, some))
rows_some true width (line ∷ lines) some =
    omega (arith, rows_of-some width line, length-append (rows_of width line) (flat_map (rows_of width) lines))

asks_by : (keeps : Bool) (rows : ℕ) → 1 ≤ rows → 1 ≤ (if keeps then max 8 rows else rows)
asks_by true rows some = omega arith
asks_by false rows some = some

asks_some : (s : SceneFields) → 1 ≤ asked_rows s
asks_some s =
    let t = drawn_text s in
    asks_by (keeps_rows s) (length (content_rows (content_of s) s.size.cols))
    (rows_some s.wrap s.size.cols (drawn_lines t) (lines_some t t.message 0 (lines_of t.text) (some_lines t.text)))

pub height_is : (s : SceneFields) → IsScreen s.size.rows s.size.cols → height_of s ≡ min s.size.rows (max (wanted false (layout_of s)).preferred (room_of s))
height_is s screen =
    let children = box_of s ∷ map Window (bar_panes s) in
    let parts : parts_along false children ≡ parts_with (asked_rows s) (length (bars s)) = children_ask s in
    let whole_asks : wanted false (layout_of s) ≡ sum_of (parts_with (asked_rows s) (length (bars s))) =
    (λ i. (asked_HSplit children i).rows) ∙ ap sum_of parts in
    let ones = sum_by-replicate (λ (p : Numbers). p.preferred) (length (bars s)) (exactly 1) in
    let all = sum_by-cons (λ (p : Numbers). p.preferred) (from_one (asked_rows s)) (replicate (length (bars s)) (exactly 1)) in
    omega (arith, screen.1, ap (λ (n : Numbers). n.preferred) whole_asks, ones, all)

-- ---- few children

bar_few : (attrs : Attrs) (text : List ℕ) → length (bar attrs text) ≤ 1
bar_few attrs [] = omega arith
bar_few attrs (c ∷ cs) = omega arith

going_few : (s : SceneFields) → length (going_bars s) ≤ 4
going_few s =
    let one = bar s.looks.verdict s.verdict in
    let two = bar s.looks.argument (labelled (codes "Repeat: ") s.argument) in
    let three = bar s.looks.search (search_text s.search s.needle) in
    let four = bar s.looks.toolbar s.toolbar in
    omega (
      arith,
      length-append one (two ++ (three ++ four)),
      length-append two (three ++ four),
      length-append three four,
      bar_few s.looks.verdict s.verdict,
      bar_few s.looks.argument (labelled (codes "Repeat: ") s.argument),
      bar_few s.looks.search (search_text s.search s.needle),
      bar_few s.looks.toolbar s.toolbar,
    )

few_by : (s : SceneFields) (b : Bool) → length (if b then [] else going_bars s) ≤ 4
few_by s true = omega arith
few_by s false = going_few s

few_bars : (s : SceneFields) → length (bars s) ≤ 4
few_bars s = few_by s s.finished

each_few : (panes : List PaneFields) → EachChild Node HasFewChildren (map Window panes)
each_few [] = tt
each_few (pane ∷ panes) = (subst (λ (fact : Type 0). fact) (sym (few_at_Window pane)) tt, each_few panes)

-- ---- the bars in turn

-- the rows of one column of windows
abbrev rows_from : ℕ → ℕ → Area
rows_from rows cols = record { row = 0; col = 0; size = record { rows = rows; cols = cols } }

join_first : (pane : PaneFields) (area there : Area) (first rest : List PlacedFields) (others answer : Option (List PlacedFields)) → area ≡ there → first ≡ placed_at pane area ∷ [] → others ≡ Some rest → answer ≡ option_map (λ more. first ++ more) others → answer ≡ Some (placed_at pane there ∷ rest)
join_first pane area there first rest others answer same is others_are answer_is =
    answer_is ∙ ap (option_map (λ more. first ++ more)) others_are
    ∙ ap (λ (l : List PlacedFields). Some (l ++ rest)) is ∙ ap (λ (a : Area). Some (placed_at pane a ∷ rest)) same

in_turn : (rows cols before : ℕ) (panes : List PaneFields) (answer : Option (List PlacedFields)) → InTurn Node (Boxes false) false (rows_from rows cols) (zip (map Window panes) (replicate (length panes) 1)) before answer → answer ≡ Some (stacked_from cols before panes)
in_turn rows cols before [] answer turn = turn
in_turn rows cols before (pane ∷ panes) answer (inl none) =
    let never : None ≡ Some (placed_at pane (part_of false (rows_from rows cols) before 1) ∷ []) = window_gives false pane (part_of false (rows_from rows cols) before 1) None none.0 in cc
in_turn rows cols before (pane ∷ panes) answer (inr some) =
    let area = part_of false (rows_from rows cols) before 1 in
    let there : Area = record { row = before; col = 0; size = record { rows = 1; cols = cols } } in
    let begins : 0 + before ≡ before = omega arith in
    let same : area ≡ there = λ i. record { row = begins i; col = 0; size = record { rows = 1; cols = cols } } in
    let first : some.0 ≡ placed_at pane area ∷ [] = same_placed some.0 (placed_at pane area ∷ []) (window_gives false pane area (Some some.0) some.1) in
    join_first pane area there some.0 (stacked_from cols (before + 1) panes) some.2.0 answer same first
    (in_turn rows cols (before + 1) panes some.2.0 some.2.1) some.2.2

-- ---- the whole layout

-- the buffer's box has these rows, and the bars one each
box_in_turn : (s : SceneFields) (less : ℕ) (answer : Option (List PlacedFields)) → height_of s ≡ suc less + length (bars s) →
    InTurn Node (Boxes false) false (whole (drawn_size s)) ((box_of s, suc less) ∷ zip (map Window (bar_panes s)) (replicate (length (bar_panes s)) 1)) 0 answer → answer ≡ Some (placed_of s)
box_in_turn s less answer rows (inl none) =
    let never : None ≡ Some (with_floats (part_of false (whole (drawn_size s)) 0 (suc less)) (placed_at (buffer_pane s) (part_of false (whole (drawn_size s)) 0 (suc less)) ∷ []) (floats s)) =
    box_gives false (buffer_pane s) (floats s) (part_of false (whole (drawn_size s)) 0 (suc less)) None none.0 in cc
box_in_turn s less answer rows (inr some) =
    let area = part_of false (whole (drawn_size s)) 0 (suc less) in
    let count : suc less ≡ (window_of s).rows = omega (arith, rows) in
    let behind : 0 + suc less ≡ (window_of s).rows = omega (arith, rows) in
    let same : area ≡ whole (window_of s) = λ i. record { row = 0; col = 0; size = record { rows = count i; cols = s.size.cols } } in
    let first : some.0 ≡ placed_box s =
    same_placed some.0 (placed_box s)
    (box_gives false (buffer_pane s) (floats s) area (Some some.0) some.1
    ∙ ap (λ (a : Area). Some (with_floats a (placed_at (buffer_pane s) a ∷ []) (floats s))) same) in
    let others : some.2.0 ≡ Some (stacked_from s.size.cols (window_of s).rows (bar_panes s)) =
    in_turn (height_of s) s.size.cols (0 + suc less) (bar_panes s) some.2.0 some.2.1
    ∙ ap (λ (n : ℕ). Some (stacked_from s.size.cols n (bar_panes s))) behind in
    some.2.2 ∙ ap (option_map (λ more. some.0 ++ more)) others
    ∙ ap (λ (l : List PlacedFields). Some (l ++ stacked_from s.size.cols (window_of s).rows (bar_panes s))) first

-- a layout with so many bars of one row gives nothing where the room is too little, and else what its children give
split_with : (s : SceneFields) (answer : Option (List PlacedFields)) → s.size.rows ≤ 500 → Boxes false (layout_of s) (whole (drawn_size s)) answer →
    ((height_of s < 1 + length (bars s)) × (answer ≡ None))
    ⊎ ((1 + length (bars s) ≤ height_of s)
    × InTurn Node (Boxes false) false (whole (drawn_size s)) (zip (box_of s ∷ map Window (bar_panes s)) ((height_of s - length (bars s)) ∷ replicate (length (bars s)) 1)) 0 answer)
split_with s answer few gives =
    let children = box_of s ∷ map Window (bar_panes s) in
    let area = whole (drawn_size s) in
    by answer (subst (λ (means : Meaning). means area answer) (boxes_HSplit false children) gives)
  where
    by : (answer : Option (List PlacedFields)) → SplitGives Node (λ y. y) (Boxes false) false false (box_of s ∷ map Window (bar_panes s)) (whole (drawn_size s)) answer →
        ((height_of s < 1 + length (bars s)) × (answer ≡ None))
        ⊎ ((1 + length (bars s) ≤ height_of s)
        × InTurn Node (Boxes false) false (whole (drawn_size s)) (zip (box_of s ∷ map Window (bar_panes s)) ((height_of s - length (bars s)) ∷ replicate (length (bars s)) 1)) 0 answer)
    by answer (inl none) =
        let least : sum (minima_of (map (wanted false) (filter IsPresent (box_of s ∷ map Window (bar_panes s))))) ≡ 1 + length (bars s) =
        ap (λ (parts : List Numbers). sum (minima_of parts)) (children_ask s) ∙ least_of (asked_rows s) (length (bars s)) in
        inl (omega (arith, none.0, least), none.1)
    by answer (inr some) =
        let children = box_of s ∷ map Window (bar_panes s) in
        let area = whole (drawn_size s) in
        let least : sum (minima_of (map (wanted false) (filter IsPresent children))) ≡ 1 + length (bars s) =
        ap (λ (parts : List Numbers). sum (minima_of parts)) (children_ask s) ∙ least_of (asked_rows s) (length (bars s)) in
        let sizes : some.1.0 ≡ (height_of s - length (bars s)) ∷ replicate (length (bars s)) 1 =
        division_is (asked_rows s) (length (bars s)) (height_of s) some.1.0 (asks_some s) (omega (arith, few))
        (subst (λ (parts : List Numbers). Division parts (height_of s) false some.1.0) (children_ask s) some.1.1) in
        let turn = subst (λ (nodes : List Node). InTurn Node (Boxes false) false area (zip nodes some.1.0) 0 answer) (children_there s) some.1.2 in
        inr (
          omega (arith, some.0, least),
          subst (λ (l : List ℕ). InTurn Node (Boxes false) false area (zip children l) 0 answer) sizes turn,
        )

with_room : (s : SceneFields) (answer : Option (List PlacedFields)) → 1 + length (bars s) ≤ height_of s →
    InTurn Node (Boxes false) false (whole (drawn_size s)) (zip (box_of s ∷ map Window (bar_panes s)) ((height_of s - length (bars s)) ∷ replicate (length (bars s)) 1)) 0 answer → answer ≡ Some (placed_of s)
with_room s answer room turn =
    let less : ℕ = height_of s - length (bars s) - 1 in
    let rows : height_of s - length (bars s) ≡ suc less = omega (arith, room) in
    let count : length (bars s) ≡ length (bar_panes s) = sym (length-map (bars s) (bar_pane s)) in
    let P : ℕ → ℕ → Type 0 = λ first others. InTurn Node (Boxes false) false (whole (drawn_size s)) ((box_of s, first) ∷ zip (map Window (bar_panes s)) (replicate others 1)) 0 answer in
    box_in_turn s less answer (omega (arith, rows, room))
    (subst (λ (n : ℕ). P (suc less) n) count (subst (λ (n : ℕ). P n (length (bars s))) rows turn))

by_division : (s : SceneFields) (b : Bool) (answer : Option (List PlacedFields)) → has_division s ≡ b → s.size.rows ≤ 500 → Boxes false (layout_of s) (whole (drawn_size s)) answer → answer ≡ (if b then Some (placed_of s) else None)
by_division s false answer is few gives =
    elim (split_with s answer few gives) [
      | inl none ↦ none.1
      | inr some ↦ absurd (omega (arith, some.0, leb-false (1 + length (bars s)) (height_of s) is))
    ]
by_division s true answer is few gives =
    elim (split_with s answer few gives) [
      | inl none ↦ absurd (omega (arith, none.0, leb-true (1 + length (bars s)) (height_of s) is))
      | inr some ↦ with_room s answer some.0 some.1
    ]

pub places_are : (s : SceneFields) (found : Option (List PlacedFields)) → IsScreen s.size.rows s.size.cols → Boxes false (layout_of s) (whole (drawn_size s)) found → found ≡ closed_places s
places_are s found screen gives = by_division s (has_division s) found refl screen.1 gives

pub few_in_layout : (s : SceneFields) → HasFewChildren (layout_of s)
few_in_layout s =
    let children = box_of s ∷ map Window (bar_panes s) in
    subst (λ (fact : Type 0). fact) (sym (few_at_HSplit children))
    (omega (arith, length-map (bar_panes s) Window, length-map (bars s) (bar_pane s), few_bars s), (few_in_box (buffer_pane s) (floats s), each_few (bar_panes s)))

-- ---- the scroll

-- the first pane of a box stays the first, whatever floats over it
first_with : (box : Area) (first : PlacedFields) (rest : List PlacedFields) (pane : PaneFields) (place : Option Area) → (more : List PlacedFields) × (with_pane (first ∷ rest) pane place ≡ first ∷ more)
first_with box first rest pane None = (rest, refl)
first_with box first rest pane (Some area) = (rest ++ placed_at pane area ∷ [], refl)

first_stays : (box : Area) (first : PlacedFields) (rest : List PlacedFields) (those : List Float) → (more : List PlacedFields) × (with_floats box (first ∷ rest) those ≡ first ∷ more)
first_stays box first rest [] = (rest, refl)
first_stays box first rest (float ∷ those) =
    let place = float_area (first ∷ rest) box float.pane float.place in
    let one = first_with box first rest float.pane place in
    let all = first_stays box first one.0 those in
    (all.0, ap (λ (l : List PlacedFields). with_floats box l those) one.1 ∙ all.1)

scroll_by : (s : SceneFields) (b : Bool) → (if b then settled (content_of s) (window_of s) s.scroll else s.scroll) ≡ scroll_in s.scroll (if b then Some (placed_of s) else None)
scroll_by s false = refl
scroll_by s true =
    let first = first_stays (whole (window_of s)) (placed_at (buffer_pane s) (whole (window_of s))) [] (floats s) in
    let behind = stacked_from s.size.cols (window_of s).rows (bar_panes s) in
    sym (ap (λ (l : List PlacedFields). scroll_in s.scroll (Some (l ++ behind))) first.1)

pub scroll_is : (s : SceneFields) (found : Option (List PlacedFields)) → IsScreen s.size.rows s.size.cols → Boxes false (layout_of s) (whole (drawn_size s)) found → settled_scroll s ≡ scroll_in s.scroll found
scroll_is s found screen gives = scroll_by s (has_division s) ∙ sym (ap (scroll_in s.scroll) (places_are s found screen gives))
