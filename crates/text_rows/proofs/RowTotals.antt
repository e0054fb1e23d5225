-- The rows of the lines that a text is drawn on, counted by the columns of its characters.
use Prim.Native.Nat.{min, suc, zero}
use Rattle.std.proofs.Common.{◌≡◌, ℕ, ◌+◌, ◌-◌, ◌==◌, ◌≤◌, ◌⊎◌, inl, inr, Bool, true, false, cond, List, [], ◌∷◌, ◌++◌, length, map, replicate, take, drop, refl, sym, ap, ◌∙◌, subst, append_assoc, append-nil, arith, length-append, nat_eq, nat_lt, slice_range}
use Rattle.std.specs.Prelude.{flat_map, if◌then◌else◌, nat_le, unwrap_or}
use Rattle.std.specs.List.{onto_first}
use Rattle.std.proofs.lemmas.Bool.Decides.{nat_tests}
use Rattle.std.proofs.lemmas.List.{length-replicate}
use Rattle.unicode_width.specs.Width.{char_width}
use Rattle.cell_grid.specs.declared.attrs.Attrs.{Attrs}
use Rattle.cell_grid.specs.declared.cell.Cell.{Cell}
use Rattle.cell_grid.specs.declared.cell.Cell.TheVariants.{Lead, Tail}
use Rattle.cell_grid.specs.Attrs.{plain}
use Rattle.cell_grid.specs.Cell.{blank, joined, narrow, spread}
use Rattle.cell_grid.specs.Row.{IsWhole, IsWholeAfter}
use Rattle.cell_grid.specs.TextCells.{has_lead, is_control, joined_last, lead_of, spelled, with_char, with_chars, with_next}
use Rattle.text_doc.specs.Lines.{lines_of}
use Rattle.win_view.specs.Rows.{flowed, holdable, narrowed_cell, rows_of}
use Rattle.win_view.specs.Rows as rows
use Rattle.win_view.proofs.Flows.{some_row}
use Rattle.text_rows.specs.declared.flows.Flow.{Flow}
use Rattle.text_rows.specs.declared.looks.Looks.{Looks}
use Rattle.text_rows.specs.declared.marks.Mark.{Mark}
use Rattle.text_rows.specs.DrawnText.{TextFields}
use Rattle.text_rows.specs.Flows.{begun, begun_by, char_columns, columns_in, flow_of, marks_from, room_after, room_at, room_behind}
use Rattle.text_rows.specs.Lines.{line_cells, lines_from, with_line}
use Rattle.text_rows.proofs.CellCounts.{three_parts}
use Rattle.text_rows.proofs.FlowLemmas.{begun-append, room-append}
use Rattle.text_rows.proofs.LineCuts.{some_lines}
use Rattle.text_rows.proofs.WholeLines.{whole-line_cells}

-- ---- the columns of cells that characters give

columns-append : (xs ys : List Cell) → columns_in (xs ++ ys) ≡ columns_in xs ++ columns_in ys
columns-append [] ys = refl
columns-append (Lead text columns attrs ∷ xs) ys = ap (λ (l : List ℕ). columns ∷ l) (columns-append xs ys)
columns-append (Tail ∷ xs) ys = columns-append xs ys

join_by : (b : Bool) (text : List ℕ) (columns : ℕ) (attrs : Attrs) (c : ℕ) (one rest : List Cell) → columns_in one ≡ columns_in rest → columns_in (if b then Lead text columns attrs ∷ one else joined (Lead text columns attrs) c ∷ rest) ≡ columns ∷ columns_in rest
join_by true text columns attrs c one rest e = ap (λ (l : List ℕ). columns ∷ l) e
join_by false text columns attrs c one rest e = refl

columns-joined_last : (cells : List Cell) (c : ℕ) → columns_in (joined_last cells c) ≡ columns_in cells
columns-joined_last [] c = refl
columns-joined_last (Tail ∷ cells) c = columns-joined_last cells c
columns-joined_last (Lead text columns attrs ∷ cells) c = join_by (has_lead cells) text columns attrs c (joined_last cells c) cells (columns-joined_last cells c)

columns_pieces : (pieces : List ℕ) (attrs other : Attrs) → columns_in (map (λ piece. narrow piece attrs) pieces) ≡ columns_in (map (λ piece. narrow piece other) pieces)
columns_pieces [] attrs other = refl
columns_pieces (piece ∷ pieces) attrs other = ap (λ (l : List ℕ). 1 ∷ l) (columns_pieces pieces attrs other)

columns_spread : (b : Bool) (c width : ℕ) (attrs other : Attrs) → columns_in (spread (if b then narrow 65533 attrs else Lead (c ∷ []) width attrs)) ≡ columns_in (spread (if b then narrow 65533 other else Lead (c ∷ []) width other))
columns_spread true c width attrs other = refl
columns_spread false c width attrs other = refl

by_case : (b : Bool) (front : List ℕ) (x y x' y' : List Cell) → columns_in x ≡ front ++ columns_in x' → columns_in y ≡ front ++ columns_in y' → columns_in (if b then x else y) ≡ front ++ columns_in (if b then x' else y')
by_case true front x y x' y' e f = e
by_case false front x y x' y' e f = f

columns-with_char : (cells : List Cell) (c width : ℕ) (attrs : Attrs) → columns_in (with_char cells c width attrs) ≡ columns_in cells ++ columns_in (with_char [] c width plain)
columns-with_char cells c width attrs =
    by_case (nat_eq c 160) (columns_in cells) (cells ++ narrow 32 attrs ∷ []) _ (narrow 32 plain ∷ []) _
    (columns-append cells (narrow 32 attrs ∷ []))
    (by_case (nat_eq width 0) (columns_in cells) (joined_last cells c) _ [] _
    (columns-joined_last cells c ∙ sym (append-nil (columns_in cells)))
    (columns-append cells (spread (lead_of c width attrs)) ∙ ap (λ (l : List ℕ). columns_in cells ++ l) (columns_spread (nat_lt 2 width) c width attrs plain)))

columns-with_next : (attrs control : Attrs) (cells : List Cell) (c : ℕ) → columns_in (with_next attrs control cells c) ≡ columns_in cells ++ char_columns c
columns-with_next attrs control cells c =
    by_case (is_control c) (columns_in cells) (cells ++ map (λ piece. narrow piece control) (spelled c)) _ (map (λ piece. narrow piece plain) (spelled c)) _
    (columns-append cells (map (λ piece. narrow piece control) (spelled c)) ∙ ap (λ (l : List ℕ). columns_in cells ++ l) (columns_pieces (spelled c) control plain))
    (columns-with_char cells c (unwrap_or (char_width false c) 0) attrs)

abbrev pub columns_for : List ℕ → List ℕ
columns_for chars = flat_map char_columns chars

columns-with_chars : (attrs control : Attrs) (cells : List Cell) (chars : List ℕ) → columns_in (with_chars attrs control cells chars) ≡ columns_in cells ++ columns_for chars
columns-with_chars attrs control cells [] = sym (append-nil (columns_in cells))
columns-with_chars attrs control cells (c ∷ cs) =
    columns-with_chars attrs control (with_next attrs control cells c) cs
    ∙ ap (λ (l : List ℕ). l ++ columns_for cs) (columns-with_next attrs control cells c)
    ∙ append_assoc (columns_in cells) (char_columns c) (columns_for cs)

columns_for-append : (xs ys : List ℕ) → columns_for (xs ++ ys) ≡ columns_for xs ++ columns_for ys
columns_for-append [] ys = refl
columns_for-append (x ∷ xs) ys =
    ap (λ (l : List ℕ). char_columns x ++ l) (columns_for-append xs ys) ∙ sym (append_assoc (char_columns x) (columns_for xs) (columns_for ys))

columns-with_line : (looks : Looks) (from to : ℕ) (cells : List Cell) (line : List ℕ) → from ≤ to → columns_in (with_line looks from to cells line) ≡ columns_in cells ++ columns_for line
columns-with_line looks from to cells line ordered =
    let one = take from line in
    let two = slice_range line from to in
    let three = drop to line in
    let front = with_chars plain looks.control cells one in
    let middle = with_chars looks.selected looks.control front two in
    let all : columns_for line ≡ columns_for one ++ (columns_for two ++ columns_for three) =
    ap columns_for (sym (three_parts from to line ordered)) ∙ columns_for-append one (two ++ three)
    ∙ ap (λ (l : List ℕ). columns_for one ++ l) (columns_for-append two three) in
    columns-with_chars plain looks.control middle three
    ∙ ap (λ (l : List ℕ). l ++ columns_for three) (columns-with_chars looks.selected looks.control front two)
    ∙ ap (λ (l : List ℕ). (l ++ columns_for two) ++ columns_for three) (columns-with_chars plain looks.control cells one)
    ∙ append_assoc (columns_in cells ++ columns_for one) (columns_for two) (columns_for three)
    ∙ append_assoc (columns_in cells) (columns_for one) (columns_for two ++ columns_for three)
    ∙ ap (λ (l : List ℕ). columns_in cells ++ l) (sym all)

-- those of a line: what stands before it, its characters, what stands behind it, and a blank
columns-line : (t : TextFields) (before : List Cell) (start : ℕ) (line behind : List ℕ) → t.selected_from ≤ t.selected_to → columns_in (line_cells t before start line behind) ≡ columns_in before ++ (columns_for line ++ (columns_for behind ++ 1 ∷ []))
columns-line t before start line behind ordered =
    let own = with_line t.looks (t.selected_from - start) (t.selected_to - start) before line in
    let cells = with_chars t.looks.suggestion t.looks.control own behind in
    columns-append cells (blank ∷ [])
    ∙ ap (λ (l : List ℕ). l ++ 1 ∷ []) (columns-with_chars t.looks.suggestion t.looks.control own behind)
    ∙ append_assoc (columns_in own) (columns_for behind) (1 ∷ [])
    ∙ ap (λ (l : List ℕ). l ++ (columns_for behind ++ 1 ∷ [])) (columns-with_line t.looks (t.selected_from - start) (t.selected_to - start) before line (omega (arith, ordered)))
    ∙ append_assoc (columns_in before) (columns_for line) (columns_for behind ++ 1 ∷ [])

-- ---- the rows of cells

-- each character fits on a row
abbrev Fit : ℕ → List Cell → Type 0
Fit width [] = Unit {0}
Fit width (Lead text columns attrs ∷ cells) = (columns ≤ width) × Fit width cells
Fit width (Tail ∷ cells) = Fit width cells

length_onto : (cell : Cell) (those : List (List Cell)) → 1 ≤ length those → length (rows.onto_first cell those) ≡ length those
length_onto cell [] some = absurd (omega (arith, some))
length_onto cell (row ∷ those) some = refl

count_by_test : (test : Bool) (cell : Cell) (fit broken : List (List Cell)) (m n : ℕ) → 1 ≤ length fit → 1 ≤ length broken → length fit ≡ 1 + m → length broken ≡ 1 + n → length (if test then rows.onto_first cell fit else [] ∷ rows.onto_first cell broken) ≡ 1 + (if test then m else n + 1)
count_by_test true cell fit broken m n f b e g = length_onto cell fit f ∙ e
count_by_test false cell fit broken m n f b e g = omega (arith, length_onto cell broken b, g)

count_flowed : (width room : ℕ) (cells : List Cell) → Fit width cells → length (flowed width room cells) ≡ 1 + begun width room (columns_in cells)
count_flowed width room [] fit = refl
count_flowed width room (Tail ∷ cells) fit = length_onto Tail (flowed width room cells) (some_row width room cells) ∙ count_flowed width room cells fit
count_flowed width room (Lead text columns attrs ∷ cells) fit =
    let whole : columns ≡ min columns width = omega (arith, fit.0) in
    let those = columns_in cells in
    count_by_test (nat_le columns room) (Lead text columns attrs) (flowed width (room - columns) cells) (flowed width (width - columns) cells) (begun width (room - columns) those) (begun width (width - columns) those)
    (some_row width (room - columns) cells) (some_row width (width - columns) cells)
    (count_flowed width (room - columns) cells fit.1) (count_flowed width (width - columns) cells fit.1)
    ∙ ap (λ (n : ℕ). 1 + (if nat_le n room then begun width (room - n) those else begun width (width - n) those + 1)) whole

fit_whole : (b : Bool) (width : ℕ) (cells : List Cell) → 2 ≤ width → IsWholeAfter b cells → Fit width cells
fit_whole false width [] wide whole = tt
fit_whole true width [] wide whole = absurd whole
fit_whole false width (Lead text columns attrs ∷ cells) wide (inl one) = (omega (arith, one.0, wide), fit_whole false width cells wide one.1)
fit_whole false width (Lead text columns attrs ∷ cells) wide (inr two) = (omega (arith, two.0, wide), fit_whole true width cells wide two.1)
fit_whole false width (Tail ∷ cells) wide whole = absurd whole
fit_whole true width (Lead text columns attrs ∷ cells) wide whole = absurd whole
fit_whole true width (Tail ∷ cells) wide whole = fit_whole false width cells wide whole

-- on a row of one column each character has one
begun_one : (room columns : ℕ) (xs ys : List ℕ) → 1 ≤ columns → ((room : ℕ) → begun 1 room xs ≡ begun 1 room ys) → begun 1 room (1 ∷ xs) ≡ begun 1 room (columns ∷ ys)
begun_one room columns xs ys some same =
    let one : 1 ≡ min columns 1 = omega (arith, some) in
    (λ i. if nat_le 1 room then same (room - 1) i else same (1 - 1) i + 1)
    ∙ ap (λ (n : ℕ). if nat_le n room then begun 1 (room - n) ys else begun 1 (1 - n) ys + 1) one

abbrev Narrows : List Cell → Type 0
Narrows cells = Fit 1 (flat_map narrowed_cell cells) × ((room : ℕ) → begun 1 room (columns_in (flat_map narrowed_cell cells)) ≡ begun 1 room (columns_in cells))

narrow_lead : (text : List ℕ) (columns : ℕ) (attrs : Attrs) (cells : List Cell) → (columns ≡ 1) ⊎ (columns ≡ 2) → Narrows cells → Narrows (Lead text columns attrs ∷ cells)
narrow_lead text columns attrs cells (inl one) rest =
    subst (λ (n : ℕ). Narrows (Lead text n attrs ∷ cells)) (sym one) ((omega arith, rest.0), λ room. begun_one room 1 _ _ (omega arith) rest.1)
narrow_lead text columns attrs cells (inr two) rest =
    subst (λ (n : ℕ). Narrows (Lead text n attrs ∷ cells)) (sym two) ((omega arith, rest.0), λ room. begun_one room 2 _ _ (omega arith) rest.1)

narrows : (b : Bool) (cells : List Cell) → IsWholeAfter b cells → Narrows cells
narrows false [] whole = (tt, λ room. refl)
narrows true [] whole = absurd whole
narrows false (Lead text columns attrs ∷ cells) (inl one) = narrow_lead text columns attrs cells (inl one.0) (narrows false cells one.1)
narrows false (Lead text columns attrs ∷ cells) (inr two) = narrow_lead text columns attrs cells (inr two.0) (narrows true cells two.1)
narrows false (Tail ∷ cells) whole = absurd whole
narrows true (Lead text columns attrs ∷ cells) whole = absurd whole
narrows true (Tail ∷ cells) whole = narrows false cells whole

pub count_rows : (width : ℕ) (cells : List Cell) → 1 ≤ width → IsWhole cells → length (rows_of width cells) ≡ 1 + begun width width (columns_in cells)
count_rows zero cells some whole = absurd (omega (arith, some))
count_rows (suc zero) cells some whole =
    let narrow_cells = narrows false cells whole in
    count_flowed 1 1 (flat_map narrowed_cell cells) narrow_cells.0 ∙ ap (λ (n : ℕ). 1 + n) (narrow_cells.1 1)
count_rows (suc (suc width)) cells some whole =
    let wide : ℕ = suc (suc width) in
    let other : nat_eq wide 1 ≡ false = grind (arith, nat_tests) in
    ap (λ (b : Bool). length (flowed wide wide (if b then flat_map narrowed_cell cells else cells))) other
    ∙ count_flowed wide wide cells (fit_whole false wide cells (omega arith) whole)

-- ---- the rows of lines

-- those of lines of which the first has characters of these columns before it
abbrev rows_total : ℕ → TextFields → List ℕ → List (List ℕ) → ℕ
rows_total width t front [] = 0
rows_total width t front (line ∷ []) = 1 + begun width width (front ++ (columns_for line ++ (columns_for t.suggestion ++ 1 ∷ [])))
rows_total width t front (line ∷ next ∷ lines) = 1 + begun width width (front ++ (columns_for line ++ 1 ∷ [])) + rows_total width t (columns_in t.continuation) (next ∷ lines)

rows_line : (width : ℕ) (t : TextFields) (before : List Cell) (start : ℕ) (line behind : List ℕ) → 1 ≤ width → t.selected_from ≤ t.selected_to → IsWhole before → length (rows_of width (line_cells t before start line behind)) ≡ 1 + begun width width (columns_in before ++ (columns_for line ++ (columns_for behind ++ 1 ∷ [])))
rows_line width t before start line behind some ordered whole =
    count_rows width (line_cells t before start line behind) some (whole-line_cells t before start line behind whole)
    ∙ ap (λ (l : List ℕ). 1 + begun width width l) (columns-line t before start line behind ordered)

rows_lines : (width : ℕ) (t : TextFields) (before : List Cell) (start : ℕ) (lines : List (List ℕ)) → 1 ≤ width → t.selected_from ≤ t.selected_to → IsWhole before → IsWhole t.continuation → length (flat_map (rows_of width) (lines_from t before start lines)) ≡ rows_total width t (columns_in before) lines
rows_lines width t before start [] some ordered whole others = refl
rows_lines width t before start (line ∷ []) some ordered whole others =
    let own = rows_of width (line_cells t before start line t.suggestion) in
    omega (arith, length-append own [], rows_line width t before start line t.suggestion some ordered whole)
rows_lines width t before start (line ∷ next ∷ lines) some ordered whole others =
    let own = rows_of width (line_cells t before start line []) in
    let rest = flat_map (rows_of width) (lines_from t t.continuation (start + length line + 1) (next ∷ lines)) in
    omega (
      arith,
      length-append own rest,
      rows_line width t before start line [] some ordered whole,
      rows_lines width t t.continuation (start + length line + 1) (next ∷ lines) some ordered others others,
    )

-- the same by the marks of the text
abbrev MarkedTotal : ℕ → Flow → TextFields → List ℕ → ℕ → List ℕ → Type 0
MarkedTotal width under t front place text =
    rows_total width t front (lines_of text)
    ≡ 1 + begun width width front + length (marks_from width under (room_behind width width front) place text)
    + begun width (room_at width under (room_behind width width front) text) (columns_for t.suggestion ++ 1 ∷ [])

onto_total : (width : ℕ) (t : TextFields) (front : List ℕ) (c : ℕ) (lines : List (List ℕ)) → 1 ≤ length lines → rows_total width t front (onto_first c lines) ≡ rows_total width t (front ++ char_columns c) lines
onto_total width t front c [] some = absurd (omega (arith, some))
onto_total width t front c (line ∷ []) some =
    let behind = columns_for t.suggestion ++ 1 ∷ [] in
    ap (λ (l : List ℕ). 1 + begun width width l)
    (ap (λ (l : List ℕ). front ++ l) (append_assoc (char_columns c) (columns_for line) behind) ∙ sym (append_assoc front (char_columns c) (columns_for line ++ behind)))
onto_total width t front c (line ∷ next ∷ lines) some =
    ap (λ (l : List ℕ). 1 + begun width width l + rows_total width t (columns_in t.continuation) (next ∷ lines))
    (ap (λ (l : List ℕ). front ++ l) (append_assoc (char_columns c) (columns_for line) (1 ∷ [])) ∙ sym (append_assoc front (char_columns c) (columns_for line ++ 1 ∷ [])))

below_total : (width : ℕ) (t : TextFields) (front : List ℕ) (lines : List (List ℕ)) → 1 ≤ length lines → rows_total width t front ([] ∷ lines) ≡ 1 + begun width width (front ++ 1 ∷ []) + rows_total width t (columns_in t.continuation) lines
below_total width t front [] some = absurd (omega (arith, some))
below_total width t front (line ∷ lines) some = refl

total_by : (feed : Bool) (width : ℕ) (under : Flow) (t : TextFields) (front : List ℕ) (place c : ℕ) (text : List ℕ) → (c == 10) ≡ feed → under ≡ flow_of width t.continuation
    → MarkedTotal width under t (columns_in t.continuation) (place + 1) text → MarkedTotal width under t (front ++ char_columns c) (place + 1) text → MarkedTotal width under t front place (c ∷ text)
total_by true width under t front place c text is under_is below along =
    let room = room_behind width width front in
    let lines : lines_of (c ∷ text) ≡ [] ∷ lines_of text = ap (λ (b : Bool). cond b ([] ∷ lines_of text) (onto_first c (lines_of text))) is in
    let count : begun_by width under room c ≡ begun width room (1 ∷ []) + (under.rows + 1) =
    ap (λ (b : Bool). if b then begun width room (1 ∷ []) + (under.rows + 1) else begun width room (char_columns c)) is in
    let after : room_after width under room c ≡ room_behind width width (columns_in t.continuation) =
    ap (λ (b : Bool). if b then under.room else room_behind width room (char_columns c)) is ∙ ap (λ (f : Flow). f.room) under_is in
    let mark : Mark = record { place = place; room = room } in
    omega (
      arith,
      ap (rows_total width t front) lines,
      below_total width t front (lines_of text) (some_lines text),
      begun-append width width front (1 ∷ []),
      count,
      ap (λ (f : Flow). f.rows) under_is,
      below,
      length-append (replicate (begun_by width under room c) mark) (marks_from width under (room_after width under room c) (place + 1) text),
      length-replicate (begun_by width under room c) mark,
      ap (λ (n : ℕ). length (marks_from width under n (place + 1) text)) after,
      ap (λ (n : ℕ). begun width (room_at width under n text) (columns_for t.suggestion ++ 1 ∷ [])) after,
    )
total_by false width under t front place c text is under_is below along =
    let room = room_behind width width front in
    let lines : lines_of (c ∷ text) ≡ onto_first c (lines_of text) = ap (λ (b : Bool). cond b ([] ∷ lines_of text) (onto_first c (lines_of text))) is in
    let count : begun_by width under room c ≡ begun width room (char_columns c) =
    ap (λ (b : Bool). if b then begun width room (1 ∷ []) + (under.rows + 1) else begun width room (char_columns c)) is in
    let after : room_after width under room c ≡ room_behind width width (front ++ char_columns c) =
    ap (λ (b : Bool). if b then under.room else room_behind width room (char_columns c)) is ∙ sym (room-append width width front (char_columns c)) in
    let mark : Mark = record { place = place; room = room } in
    omega (
      arith,
      ap (rows_total width t front) lines,
      onto_total width t front c (lines_of text) (some_lines text),
      begun-append width width front (char_columns c),
      count,
      along,
      length-append (replicate (begun_by width under room c) mark) (marks_from width under (room_after width under room c) (place + 1) text),
      length-replicate (begun_by width under room c) mark,
      ap (λ (n : ℕ). length (marks_from width under n (place + 1) text)) after,
      ap (λ (n : ℕ). begun width (room_at width under n text) (columns_for t.suggestion ++ 1 ∷ [])) after,
    )

marked_total : (width : ℕ) (under : Flow) (t : TextFields) (front : List ℕ) (place : ℕ) (text : List ℕ) → under ≡ flow_of width t.continuation → MarkedTotal width under t front place text
marked_total width under t front place [] under_is =
    omega (arith, begun-append width width front (columns_for t.suggestion ++ 1 ∷ []))
marked_total width under t front place (c ∷ text) under_is =
    total_by (c == 10) width under t front place c text refl under_is
    (marked_total width under t (columns_in t.continuation) (place + 1) text under_is)
    (marked_total width under t (front ++ char_columns c) (place + 1) text under_is)

-- the rows of all lines are those of what stands before the first, one for each mark, and those of what stands behind the text
pub rows_are : (width : ℕ) (under : Flow) (t : TextFields) → 1 ≤ width → t.selected_from ≤ t.selected_to → IsWhole t.message → IsWhole t.continuation → under ≡ flow_of width t.continuation →
    length (flat_map (rows_of width) (lines_from t t.message 0 (lines_of t.text)))
    ≡ 1 + (flow_of width t.message).rows + length (marks_from width under (flow_of width t.message).room 0 t.text)
    + begun width (room_at width under (flow_of width t.message).room t.text) (columns_for t.suggestion ++ 1 ∷ [])
rows_are width under t some ordered whole others under_is =
    rows_lines width t t.message 0 (lines_of t.text) some ordered whole others
    ∙ marked_total width under t (columns_in t.message) 0 t.text under_is
