-- What is kept of a text counts the rows of what is drawn of it.
use Rattle.std.proofs.Common.{◌≡◌, ℕ, ◌+◌, ◌*◌, ◌≤◌, ◌==◌, Bool, true, false, List, [], ◌∷◌, ◌++◌, length, replicate, sym, ap, ◌∙◌, subst, arith, length-append}
use Rattle.std.specs.Prelude.{flat_map, if◌then◌else◌}
use Rattle.std.proofs.lemmas.List.{length-replicate}
use Rattle.cell_grid.specs.declared.cell.Cell.{Cell}
use Rattle.cell_grid.specs.Attrs.{plain}
use Rattle.cell_grid.specs.Row.{IsWhole}
use Rattle.cell_grid.specs.TextCells.{with_next}
use Rattle.win_view.specs.Rows.{rows_of}
use Rattle.text_rows.specs.declared.flows.Flow.{Flow}
use Rattle.text_rows.specs.declared.marks.Mark.{Mark}
use Rattle.text_rows.specs.DrawnText.{TextFields}
use Rattle.text_rows.specs.Flows.{IsKept, begun, begun_by, char_columns, columns_in, flow_of, marks_from, room_after, room_at}
use Rattle.text_rows.specs.KeptRows.{IsDrawnFrom, RowsFields}
use Rattle.text_rows.specs.Lines.{drawn_lines}
use Rattle.text_rows.proofs.CellCounts.{few-cells_for}
use Rattle.text_rows.proofs.FlowLemmas.{begun-few, few_columns}
use Rattle.text_rows.proofs.RowTotals.{columns_for, rows_are}

-- ---- marks are few

few_by : (feed : Bool) (width room c : ℕ) (under : Flow) → under.rows ≤ 1000 → (if feed then begun width room (1 ∷ []) + (under.rows + 1) else begun width room (char_columns c)) ≤ 1005
few_by true width room c under few = omega (arith, few, begun-few width room (1 ∷ []))
few_by false width room c under few = omega (arith, begun-few width room (char_columns c), few_columns (with_next plain plain [] c), few-cells_for c)

pub few_marks : (width : ℕ) (under : Flow) (room place : ℕ) (text : List ℕ) → under.rows ≤ 1000 → length (marks_from width under room place text) ≤ 1005 * length text
few_marks width under room place [] few = omega arith
few_marks width under room place (c ∷ text) few =
    let count = begun_by width under room c in
    let mark : Mark = record { place = place; room = room } in
    omega (
      arith,
      few_by (c == 10) width room c under few,
      few_marks width under (room_after width under room c) (place + 1) text few,
      length-append (replicate count mark) (marks_from width under (room_after width under room c) (place + 1) text),
      length-replicate count mark,
    )

-- so few are the rows before the text, and those in all
pub few_kept : (message continuation : List Cell) (text : List ℕ) (width : ℕ) (opening under : Flow) (marks : List Mark) (room : ℕ) → IsKept message continuation text width opening under marks room → (opening.rows ≤ 1000) × (length marks ≤ 40000000)
few_kept message continuation text width opening under marks room kept =
    let first : opening.rows ≤ 1000 =
    omega (arith, ap (λ (f : Flow). f.rows) kept.opening_is, begun-few width width (columns_in message), few_columns message, kept.short_message) in
    let others : under.rows ≤ 1000 =
    omega (arith, ap (λ (f : Flow). f.rows) kept.under_is, begun-few width width (columns_in continuation), few_columns continuation, kept.short_continuation) in
    (first, omega (arith, ap length kept.marked.marks_are, few_marks width under opening.room 0 text others, kept.short_text))

-- ---- the count

-- the rows by the flow before the text, its marks, and what stands behind it
abbrev Rows : ℕ → Flow → Flow → List ℕ → List ℕ → ℕ
Rows width under opening text behind =
    1 + opening.rows + length (marks_from width under opening.room 0 text) + begun width (room_at width under opening.room text) (columns_for behind ++ 1 ∷ [])

pub counts_rows : (r : RowsFields) (message continuation : List Cell) (text : List ℕ) (width : ℕ) (opening under : Flow) (marks : List Mark) (room : ℕ) (behind : List ℕ) (t : TextFields) (last count : ℕ)
    → r ≡ record { message = message; continuation = continuation; text = text; width = width } → IsKept message continuation text width opening under marks room → IsWhole message → IsWhole continuation
    → IsDrawnFrom r behind t → last ≡ begun width room (columns_for behind ++ 1 ∷ []) → count ≡ 1 + opening.rows + length marks + last → count ≡ length (flat_map (rows_of r.width) (drawn_lines t))
counts_rows r message continuation text width opening under marks room behind t last count is kept whole others drawn last_is count_is =
    let m : t.message ≡ message = drawn.message ∙ ap (λ (x : RowsFields). x.message) is in
    let k : t.continuation ≡ continuation = drawn.continuation ∙ ap (λ (x : RowsFields). x.continuation) is in
    let x : t.text ≡ text = drawn.text ∙ ap (λ (x : RowsFields). x.text) is in
    let all : length (flat_map (rows_of width) (drawn_lines t)) ≡ Rows width under (flow_of width t.message) t.text t.suggestion =
    rows_are width under t kept.some drawn.ordered (subst IsWhole (sym m) whole) (subst IsWhole (sym k) others) (kept.under_is ∙ ap (flow_of width) (sym k)) in
    let same : Rows width under (flow_of width t.message) t.text t.suggestion ≡ Rows width under (flow_of width message) text behind =
    λ i. Rows width under (flow_of width (m i)) (x i) (drawn.suggestion_is i) in
    let opened : Rows width under (flow_of width message) text behind ≡ Rows width under opening text behind =
    ap (λ (f : Flow). Rows width under f text behind) (sym kept.opening_is) in
    let here : count ≡ Rows width under opening text behind =
    omega (
      arith,
      count_is,
      last_is,
      ap length kept.marked.marks_are,
      ap (λ (n : ℕ). begun width n (columns_for behind ++ 1 ∷ [])) kept.marked.last_is,
    )
    in
    here ∙ sym opened ∙ sym same ∙ sym all ∙ ap (λ (n : ℕ). length (flat_map (rows_of n) (drawn_lines t))) (sym (ap (λ (x : RowsFields). x.width) is))
