-- The cell of a place is one of its line.
use Prim.Native.Nat.{suc}
use Rattle.std.proofs.Common.{◌≡◌, ℕ, ◌+◌, ◌-◌, ◌<◌, List, [], ◌∷◌, ◌++◌, length, take, refl, sym, ap, subst, ◌∙◌, arith, sum_by}
use Rattle.std.proofs.lemmas.List.Sums.{sum_by-append}
use Rattle.cell_grid.specs.declared.cell.Cell.{Cell}
use Rattle.cell_grid.specs.Attrs.{plain}
use Rattle.cell_grid.specs.TextCells.{with_chars}
use Rattle.text_doc.specs.Lines.{lines_of}
use Rattle.win_view.specs.declared.contents.Content.{Content}
use Rattle.win_view.specs.Contents.{IsContent, line_at}
use Rattle.text_rows.specs.DrawnText.{TextFields, IsDrawnText}
use Rattle.text_rows.specs.Lines.{line_cells, lines_from, drawn_lines}
use Rattle.text_rows.specs.Places.{cells_before, last_line, place_cell, place_line}
use Rattle.text_rows.proofs.CellCounts.{cells_for, cells_for_all, length-with_chars}
use Rattle.text_rows.proofs.LineCuts.{AreFront, front_of, few_lines, last-cons}
use Rattle.text_rows.proofs.LineCells.{length-line_cells, few_cells}

-- a cell behind these characters, in the lines from one on
pub record IsWithin (t : TextFields) (before : List Cell) (start : ℕ) (parts lines : List (List ℕ)) (place : ℕ) : Type 0 where
  pub line : length parts - 1 < length (lines_from t before start lines)
  pub cell : place < length (line_at (lines_from t before start lines) (length parts - 1))

-- the cells before the last of these lines
abbrev cells_at : TextFields → List Cell → List (List ℕ) → List Cell
cells_at t before [] = before
cells_at t before (part ∷ []) = before
cells_at t before (part ∷ next ∷ parts) = t.continuation

abbrev end_of : TextFields → List Cell → List (List ℕ) → ℕ
end_of t before parts = length (with_chars plain plain (cells_at t before parts) (last_line parts))

first_within : (t : TextFields) (before : List Cell) (start : ℕ) (part line more behind : List ℕ) → IsDrawnText t → line ≡ part ++ more → length (with_chars plain plain before part) < length (line_cells t before start line behind)
first_within t before start part line more behind drawn is =
    omega (
      arith,
      length-line_cells t before start line behind drawn.ordered,
      length-with_chars plain plain before part,
      ap cells_for_all is,
      sum_by-append cells_for part more,
    )

at_continuation : (t : TextFields) (part : List ℕ) (parts : List (List ℕ)) → cells_at t t.continuation (part ∷ parts) ≡ t.continuation
at_continuation t part [] = refl
at_continuation t part (next ∷ parts) = refl

-- a cell of the lines below the first is one of all lines
below_first : (t : TextFields) (before : List Cell) (start : ℕ) (part next line below : List ℕ) (parts lines : List (List ℕ)) → IsWithin t t.continuation (start + length line + 1) (next ∷ parts) (below ∷ lines) (end_of t t.continuation (next ∷ parts)) → IsWithin t before start (part ∷ next ∷ parts) (line ∷ below ∷ lines) (end_of t before (part ∷ next ∷ parts))
below_first t before start part next line below parts lines rest =
    let cells = line_cells t before start line [] in
    let others = lines_from t t.continuation (start + length line + 1) (below ∷ lines) in
    let number : length (part ∷ next ∷ parts) - 1 ≡ suc (length (next ∷ parts) - 1) = omega arith in
    let last : last_line (part ∷ next ∷ parts) ≡ last_line (next ∷ parts) = last-cons part (next ∷ parts) (omega arith) in
    let same : end_of t before (part ∷ next ∷ parts) ≡ end_of t t.continuation (next ∷ parts) =
    ap (λ (those : List ℕ). length (with_chars plain plain t.continuation those)) last
    ∙ ap (λ (cells : List Cell). length (with_chars plain plain cells (last_line (next ∷ parts)))) (sym (at_continuation t next parts))
    in
    record {
      line = omega (arith, rest.line);
      cell = omega (arith, rest.cell, same, ap length (ap (line_at (cells ∷ others)) number));
    }

within : (t : TextFields) (before : List Cell) (start : ℕ) (parts lines : List (List ℕ)) → IsDrawnText t → AreFront parts lines → IsWithin t before start parts lines (end_of t before parts)
within t before start [] lines drawn front = absurd front
within t before start (part ∷ []) [] drawn front = absurd front
within t before start (part ∷ []) (line ∷ []) drawn front = record { line = omega arith; cell = first_within t before start part line front.0 t.suggestion drawn front.1 }
within t before start (part ∷ []) (line ∷ next ∷ lines) drawn front = record { line = omega arith; cell = first_within t before start part line front.0 [] drawn front.1 }
within t before start (part ∷ next ∷ parts) [] drawn front = absurd front
within t before start (part ∷ next ∷ []) (line ∷ []) drawn front = absurd front
within t before start (part ∷ next ∷ last ∷ parts) (line ∷ []) drawn front = absurd front
within t before start (part ∷ next ∷ []) (line ∷ below ∷ lines) drawn front =
    below_first t before start part next line below [] lines (within t t.continuation (start + length line + 1) (next ∷ []) (below ∷ lines) drawn front)
within t before start (part ∷ next ∷ last ∷ parts) (line ∷ below ∷ lines) drawn front =
    below_first t before start part next line below (last ∷ parts) lines (within t t.continuation (start + length line + 1) (next ∷ last ∷ parts) (below ∷ lines) drawn front)

cells-at : (t : TextFields) (parts : List (List ℕ)) → cells_at t t.message parts ≡ cells_before t (length parts - 1)
cells-at t [] = refl
cells-at t (part ∷ []) = refl
cells-at t (part ∷ next ∷ parts) =
    let place : length (part ∷ next ∷ parts) - 1 ≡ suc (length parts) = omega arith in
    sym (ap (cells_before t) place)

pub place_within : (t : TextFields) (at : ℕ) → IsDrawnText t → IsWithin t t.message 0 (lines_of (take at t.text)) (lines_of t.text) (place_cell t at)
place_within t at drawn =
    let parts = lines_of (take at t.text) in
    let all = within t t.message 0 parts (lines_of t.text) drawn (front_of at t.text) in
    let same : end_of t t.message parts ≡ place_cell t at = ap (λ (cells : List Cell). length (with_chars plain plain cells (last_line parts))) (cells-at t parts) in
    subst (IsWithin t t.message 0 parts (lines_of t.text)) same all

pub is_content : (t : TextFields) (at : ℕ) (c : Content) → IsDrawnText t → c.lines ≡ drawn_lines t → c.line ≡ place_line t at → c.cell ≡ place_cell t at → IsContent c
is_content t at c drawn lines line cell =
    let all = place_within t at drawn in
    let few : length (drawn_lines t) + sum_by length (drawn_lines t) < 2147483648 =
    omega (arith, few_cells t t.message 0 (lines_of t.text) drawn drawn.short_message, few_lines t.text, drawn.short_text) in
    record {
      line = omega (arith, all.line, line, ap length lines);
      cell = omega (arith, all.cell, cell, ap length (ap (λ (l : List (List Cell)). line_at l c.line) lines ∙ ap (line_at (drawn_lines t)) line));
      few = omega (arith, few, ap length lines, ap (sum_by length) lines);
    }
