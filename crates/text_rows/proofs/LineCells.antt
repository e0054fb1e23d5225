-- The lines that a text is drawn on: one for each line of the text, and how many cells they have.
use Rattle.std.proofs.Common.{◌≡◌, ℕ, ◌+◌, ◌-◌, ◌*◌, ◌≤◌, List, [], ◌∷◌, ◌++◌, length, refl, sym, ap, ◌∙◌, arith, append_assoc, length-append, sum_by, drop, take, min, slice_range}
use Rattle.std.proofs.lemmas.List.{take_min, drop_min, drop-drop}
use Rattle.std.proofs.lemmas.List.Sums.{sum_by-cons}
use Rattle.cell_grid.specs.Attrs.{plain}
use Rattle.text_rows.specs.declared.looks.Looks.{Looks}
use Rattle.cell_grid.specs.declared.cell.Cell.{Cell}
use Rattle.cell_grid.specs.Cell.{blank}
use Rattle.cell_grid.specs.TextCells.{with_chars}
use Rattle.text_doc.specs.Lines.{lines_of}
use Rattle.text_rows.specs.DrawnText.{TextFields, IsDrawnText}
use Rattle.text_rows.specs.Lines.{with_line, line_cells, lines_from}
use Rattle.text_rows.proofs.CellCounts.{cells_for_all, length-with_chars, length-with_line, few-cells_for_all}
use Rattle.text_rows.proofs.LineCuts.{some_lines}

-- where more lines come, the suggestion is not behind this one
pub lines_from-more : (t : TextFields) (before : List Cell) (start : ℕ) (line : List ℕ) (lines : List (List ℕ)) → 1 ≤ length lines → lines_from t before start (line ∷ lines) ≡ line_cells t before start line [] ∷ lines_from t t.continuation (start + length line + 1) lines
lines_from-more t before start line [] some = absurd (omega (arith, some))
lines_from-more t before start line (next ∷ lines) some = refl

pub length-line_cells : (t : TextFields) (before : List Cell) (start : ℕ) (line behind : List ℕ) → t.selected_from ≤ t.selected_to → length (line_cells t before start line behind) ≡ length before + cells_for_all line + cells_for_all behind + 1
length-line_cells t before start line behind ordered =
    let own = with_line t.looks (t.selected_from - start) (t.selected_to - start) before line in
    omega (
      arith,
      length-append (with_chars t.looks.suggestion t.looks.control own behind) (blank ∷ []),
      length-with_chars t.looks.suggestion t.looks.control own behind,
      length-with_line t.looks (t.selected_from - start) (t.selected_to - start) before line (omega (arith, ordered)),
    )

-- a line has few cells
few-line : (t : TextFields) (before : List Cell) (start : ℕ) (line behind : List ℕ) → IsDrawnText t → length before ≤ 1000 → length (line_cells t before start line behind) ≤ 1001 + 4 * length line + 4 * length behind
few-line t before start line behind drawn short =
    omega (arith, short, length-line_cells t before start line behind drawn.ordered, few-cells_for_all line, few-cells_for_all behind)

-- the lines have few cells
pub few_cells : (t : TextFields) (before : List Cell) (start : ℕ) (lines : List (List ℕ)) → IsDrawnText t → length before ≤ 1000 → length (lines_from t before start lines) + sum_by length (lines_from t before start lines) ≤ 1002 * length lines + 4 * sum_by length lines + 131072
few_cells t before start [] drawn short = omega arith
few_cells t before start (line ∷ []) drawn short =
    let cells = line_cells t before start line t.suggestion in
    omega (arith, few-line t before start line t.suggestion drawn short, drawn.short_suggestion, sum_by-cons length cells [], sum_by-cons length line [])
few_cells t before start (line ∷ next ∷ lines) drawn short =
    let rest = lines_from t t.continuation (start + length line + 1) (next ∷ lines) in
    let cells = line_cells t before start line [] in
    omega (
      arith,
      few-line t before start line [] drawn short,
      few_cells t t.continuation (start + length line + 1) (next ∷ lines) drawn drawn.short_continuation,
      sum_by-cons length cells rest,
      sum_by-cons length line (next ∷ lines),
    )

-- the next line, behind those before it
pub next_line : (t : TextFields) (before : List Cell) (start : ℕ) (left line rest : List ℕ) (next cells : List Cell) (so_far now all : List (List Cell)) → next ≡ t.continuation → lines_of left ≡ line ∷ lines_of rest → cells ≡ line_cells t before start line [] → now ≡ so_far ++ cells ∷ [] → so_far ++ lines_from t before start (lines_of left) ≡ all → now ++ lines_from t next (start + (length line + 1)) (lines_of rest) ≡ all
next_line t before start left line rest next cells so_far now all follows cut is more invariant =
    let behind = lines_from t t.continuation (start + length line + 1) (lines_of rest) in
    let place : start + (length line + 1) ≡ start + length line + 1 = omega arith in
    ap (λ (one : List Cell). now ++ lines_from t one (start + (length line + 1)) (lines_of rest)) follows
    ∙ ap (λ (n : ℕ). now ++ lines_from t t.continuation n (lines_of rest)) place
    ∙ ap (λ (those : List (List Cell)). those ++ behind) more
    ∙ append_assoc so_far (cells ∷ []) behind
    ∙ ap (λ (one : List Cell). so_far ++ one ∷ behind) is
    ∙ ap (λ (those : List (List Cell)). so_far ++ those) (sym (ap (lines_from t before start) cut ∙ lines_from-more t before start line (lines_of rest) (some_lines rest)))
    ∙ invariant

-- the last line, behind those before it
pub last_line_of : (t : TextFields) (before : List Cell) (start : ℕ) (left : List ℕ) (cells : List Cell) (so_far now all : List (List Cell)) → lines_of left ≡ left ∷ [] → cells ≡ line_cells t before start left t.suggestion → now ≡ so_far ++ cells ∷ [] → so_far ++ lines_from t before start (lines_of left) ≡ all → now ≡ all
last_line_of t before start left cells so_far now all one is more invariant =
    more ∙ ap (λ (cell : List Cell). so_far ++ cell ∷ []) is
    ∙ ap (λ (those : List (List Cell)). so_far ++ those) (sym (ap (lines_from t before start) one))
    ∙ invariant

-- a line whose parts are cut at places that its length may bound
pub line_of_parts : (looks : Looks) (from to : ℕ) (before first second third : List Cell) (line front rest selected back : List ℕ) → from ≤ to
    → front ≡ take (min from (length line)) line → rest ≡ drop (min from (length line)) line → selected ≡ take (min (to - from) (length rest)) rest → back ≡ drop (min (to - from) (length rest)) rest
    → first ≡ with_chars plain looks.control before front → second ≡ with_chars looks.selected looks.control first selected → third ≡ with_chars plain looks.control second back
    → third ≡ with_line looks from to before line
line_of_parts looks from to before first second third line front rest selected back ordered is_front is_rest is_selected is_back is_first is_second is_third =
    let all : from + (to - from) ≡ to = omega (arith, ordered) in
    let front_is : front ≡ take from line = is_front ∙ take_min from line in
    let rest_is : rest ≡ drop from line = is_rest ∙ drop_min from line in
    let selected_is : selected ≡ slice_range line from to = is_selected ∙ take_min (to - from) rest ∙ ap (take (to - from)) rest_is in
    let back_is : back ≡ drop to line = is_back ∙ drop_min (to - from) rest ∙ ap (drop (to - from)) rest_is ∙ drop-drop (to - from) from line ∙ ap (λ (n : ℕ). drop n line) all in
    is_third ∙ ap (with_chars plain looks.control second) back_is
    ∙ ap (λ (cells : List Cell). with_chars plain looks.control cells (drop to line)) (is_second ∙ ap (with_chars looks.selected looks.control first) selected_is
    ∙ ap (λ (cells : List Cell). with_chars looks.selected looks.control cells (slice_range line from to)) (is_first ∙ ap (with_chars plain looks.control before) front_is))
