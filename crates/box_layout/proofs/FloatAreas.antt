-- Floats stand in their box.
use Rattle.std.proofs.Common.{Bool, true, false, cond, ◌&&◌, ◌||◌, ◌==◌, ℕ, ◌≡◌, ◌+◌, ◌-◌, ◌<◌, ◌≤◌, min, leb, ltb, refl, sym, ◌∙◌, ap, subst, List, [], ◌∷◌, ◌++◌, length, take, drop, Option, None, Some, arith}
use Rattle.std.proofs.Math.Seq.{drop-append_seam}
use Rattle.std.proofs.lemmas.List.{length-take-le, length-drop, take_all}
use Rattle.std.proofs.lemmas.Bool.Decides.{nat_tests}
use Rattle.std.proofs.lemmas.List.Elements.{All-append, All-cons, All-nil}
use Rattle.std.proofs.lemmas.Bool.{and_parts}
use Rattle.box_layout.specs.declared.areas.Area.{Area}
use Rattle.box_layout.specs.declared.nodes.Float.{Float}
use Rattle.box_layout.specs.declared.nodes.FloatPlace.{FloatPlace}
use Rattle.box_layout.specs.declared.nodes.FloatPlace.TheVariants.{TopRight, Near}
use Rattle.box_layout.specs.Areas.{IsInside}
use Rattle.box_layout.specs.Floats.{area_in, near_rows, near_cols, near_area, is_free, top_right_area, float_area, with_pane, with_floats}
use Rattle.box_layout.specs.Panes.{PaneFields}
use Rattle.box_layout.specs.Placed.{PlacedFields, AllInside, area_of, placed_at}

by_test : (b : Bool) (x : Option Area) (a : Area) → cond b x None ≡ Some a → (b ≡ true) × (x ≡ Some a)
by_test true x a e = (refl, e)
by_test false x a e = cc

not_by_test : (b : Bool) (x : Option Area) (a : Area) → cond b None x ≡ Some a → x ≡ Some a
not_by_test true x a e = cc
not_by_test false x a e = e

in_box : (box : Area) (row col rows cols : ℕ) (a : Area) → row + rows ≤ box.size.rows → col + cols ≤ box.size.cols → area_in box row col rows cols ≡ Some a → IsInside box a
in_box box row col rows cols a below right e =
    let here : Area = record { row = box.row + row; col = box.col + col; size = record { rows = rows; cols = cols } } in
    let found : Some here ≡ Some a = not_by_test (rows == 0 || cols == 0) (Some here) a e in
    let same : here ≡ a = cc in
    subst (IsInside box) same (record { above = omega arith; below = omega arith; left = omega arith; right = omega arith })

-- the rows of a float near a row, by what fits
abbrev rows_by : Bool → Bool → ℕ → ℕ → ℕ → ℕ × ℕ
rows_by fits more row below height = cond fits (row + 1, height) (cond more (row + 1, below) (row - min height row, min height row))

rows_within : (row below height : ℕ) (fits more : Bool) → fits ≡ leb height below → more ≡ leb row below → (rows_by fits more row below height).0 + (rows_by fits more row below height).1 ≤ row + 1 + below
rows_within row below height true more e f = grind (arith, nat_tests)
rows_within row below height false true e f = omega arith
rows_within row below height false false e f = omega arith

near_inside : (box : Area) (row col : ℕ) (pane : PaneFields) (a : Area) → near_area box row col pane ≡ Some a → IsInside box a
near_inside box row col pane a e =
    let rows = near_rows row (box.size.rows - 1 - row) pane.height.preferred in
    let found = area_in box rows.0 (min col (box.size.cols - near_cols box pane)) rows.1 (near_cols box pane) in
    let within : ((ltb row box.size.rows && ltb col box.size.cols) ≡ true) × (found ≡ Some a) = by_test _ found a e in
    let places = and_parts (ltb row box.size.rows) (ltb col box.size.cols) within.0 in
    let row_in : row < box.size.rows = grind (arith, nat_tests, places.0) in
    let below = rows_within row (box.size.rows - 1 - row) pane.height.preferred (leb pane.height.preferred (box.size.rows - 1 - row)) (leb row (box.size.rows - 1 - row)) refl refl in
    in_box box rows.0 (min col (box.size.cols - near_cols box pane)) rows.1 (near_cols box pane) a (omega (arith, row_in, below)) (omega arith) within.1

top_right_inside : (placed : List PlacedFields) (box : Area) (pane : PaneFields) (a : Area) → 1 ≤ box.size.rows → top_right_area placed box pane ≡ Some a → IsInside box a
top_right_inside placed box pane a some e =
    let found = area_in box 0 (box.size.cols - pane.width.preferred) 1 pane.width.preferred in
    let within : ((leb pane.width.preferred box.size.cols && is_free placed box pane.width.preferred) ≡ true) × (found ≡ Some a) = by_test _ found a e in
    let fits = and_parts (leb pane.width.preferred box.size.cols) (is_free placed box pane.width.preferred) within.0 in
    let wide : pane.width.preferred ≤ box.size.cols = grind (arith, nat_tests, fits.0) in
    in_box box 0 (box.size.cols - pane.width.preferred) 1 pane.width.preferred a (omega arith) (omega arith) within.1

-- the area of a float lies in its box
pub float_inside : (placed : List PlacedFields) (box : Area) (pane : PaneFields) (place : FloatPlace) (a : Area) → 1 ≤ box.size.rows → float_area placed box pane place ≡ Some a → IsInside box a
float_inside placed box pane TopRight a some e = top_right_inside placed box pane a some e
float_inside placed box pane (Near row col) a some e = near_inside box row col pane a e

one_more : (box : Area) (placed : List PlacedFields) (pane : PaneFields) (found : Option Area) → ((a : Area) → found ≡ Some a → IsInside box a) → AllInside box placed → AllInside box (with_pane placed pane found)
one_more box placed pane None inside all = all
one_more box placed pane (Some a) inside all = All-append (λ q. IsInside box (area_of q)) placed (placed_at pane a ∷ []) all (All-cons (λ q. IsInside box (area_of q)) (placed_at pane a) [] (inside a refl) (All-nil (λ q. IsInside box (area_of q))))

-- a box with its floats lies in its area
pub floats_inside : (box : Area) (placed : List PlacedFields) (floats : List Float) → 1 ≤ box.size.rows → AllInside box placed → AllInside box (with_floats box placed floats)
floats_inside box placed [] some all = all
floats_inside box placed (float ∷ floats) some all =
    floats_inside box (with_pane placed float.pane (float_area placed box float.pane float.place)) floats some (one_more box placed float.pane (float_area placed box float.pane float.place) (λ a e. float_inside placed box float.pane float.place a some e) all)

-- so does what is placed in a box with so many of its floats
pub placed_inside : (box : Area) (old now : List PlacedFields) (floats : List Float) (first i : ℕ) → 1 ≤ box.size.rows → first ≤ length old → AllInside box (drop first old) → now ≡ take first old ++ with_floats box (drop first old) (take i floats) → AllInside box (drop first now)
placed_inside box old now floats first i some within inside is =
    let long : length (take first old) ≡ first = length-take-le first old within in
    let back : drop first now ≡ with_floats box (drop first old) (take i floats) =
    ap (drop first) is ∙ (λ k. drop (sym long k) (take first old ++ with_floats box (drop first old) (take i floats))) ∙ drop-append_seam (take first old) (with_floats box (drop first old) (take i floats)) in
    subst (AllInside box) (sym back) (floats_inside box (drop first old) (take i floats) some inside)

-- the same of the whole rest of the list
pub rest_inside : (box : Area) (old now : List PlacedFields) (floats : List Float) (first i : ℕ) → 1 ≤ box.size.rows → first ≤ length old → AllInside box (drop first old) → now ≡ take first old ++ with_floats box (drop first old) (take i floats) → AllInside box (take (length now - first) (drop first now))
rest_inside box old now floats first i some within inside is =
    subst (AllInside box) (sym (take_all (length now - first) (drop first now) (omega (arith, length-drop first now)))) (placed_inside box old now floats first i some within inside is)
