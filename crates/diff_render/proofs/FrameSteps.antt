-- Where the bytes of a frame lead to in the end.
use Rattle.std.proofs.Common.{◌≡◌, ℕ, ◌+◌, ◌-◌, ◌<◌, ◌≤◌, true, false, List, [], ◌∷◌, ◌++◌, length, take, nat_lt}
use Rattle.std.proofs.Common.{refl, sym, ap, ◌∙◌, arith, append_assoc, append-nil, ⊎_elim}
use Rattle.std.proofs.lemmas.Bool.{cases_lt}
use Rattle.std.proofs.lemmas.Bool.Decides.{nat_tests}
use Rattle.std.proofs.lemmas.List.{replicate-append-replicate}
use Rattle.cell_grid.specs.declared.cell.Cell.{Cell}
use Rattle.cell_grid.specs.declared.attrs.Attrs.{Attrs}
use Rattle.cell_grid.specs.declared.drawing.Drawing.{Drawing}
use Rattle.cell_grid.specs.Attrs.{plain}
use Rattle.cell_grid.specs.Row.{blank_row}
use Rattle.cell_grid.specs.Grid.{blank_rows}
use Rattle.term_model.specs.Controls.{Control, CR, LF, DECAWM, BracketedPaste}
use Rattle.term_model.specs.Term.{Term}
use Rattle.term_model.specs.Obeying.{acted, fed_by, returned, forgotten}
use Rattle.diff_render.specs.Canvas.{canvas_of, canvas, top_for, IsBase, On, reads, Spells, IsQuiet}
use Rattle.diff_render.specs.Frames.{put, Agree}
use Rattle.diff_render.specs.Redrawn.{padded}
use Rattle.diff_render.specs.Turning.{closing}
use Rattle.diff_render.proofs.Reading.{spells_low}
use Rattle.diff_render.proofs.Steps.{top_before}
use Rattle.diff_render.proofs.LineSteps.{length_padded}

-- ---- what bytes read as by themselves

pub spells_reads : (bytes : List ℕ) (cs : List Control) → Spells bytes cs → reads bytes ≡ cs
spells_reads bytes cs h =
    ap reads (sym (append-nil bytes)) ∙ h [] ∙ append-nil cs

-- ---- blank lines behind a drawing

-- where the window does not move, blank lines of the canvas are those behind it
pub trimmed : (t : Term) (base rows cols height : ℕ) (new : List (List Cell)) (row col : ℕ) (pen : Attrs) (x : Term) → IsBase t base rows cols → length new ≤ height
    → top_for t base height ≡ top_for t base (length new) → On t base (canvas_of (padded height cols new) row col pen) x → On t base (canvas_of new row col pen) x
trimmed t base rows cols height new row col pen x good few tops on =
    let a = take base t.lines in
    let pad = height - length new in
    let lines = padded height cols new in
    let count : length lines ≡ height = length_padded height cols new few in
    let top = top_for t base (length lines) in
    let top_is : top ≡ top_for t base (length new) = ap (λ n. top_for t base n) count ∙ tops in
    let behind = top + t.rows - base - length lines in
    let all : pad + behind ≡ top_for t base (length new) + t.rows - base - length new = omega (arith, count, top_is) in
    let lines_are : a ++ lines ++ blank_rows behind t.cols ≡ a ++ new ++ blank_rows (top_for t base (length new) + t.rows - base - length new) t.cols =
    ap (λ k. a ++ (new ++ blank_rows pad k) ++ blank_rows behind t.cols) (sym good.wide)
    ∙ ap (λ x. x ++ blank_rows behind t.cols) (sym (append_assoc a new (blank_rows pad t.cols)))
    ∙ append_assoc (a ++ new) (blank_rows pad t.cols) (blank_rows behind t.cols)
    ∙ ap (λ x. a ++ new ++ x) (replicate-append-replicate pad behind (blank_row t.cols)) ∙ ap (λ n. a ++ new ++ blank_rows n t.cols) all in
    record {
      pending = on.pending;
      last = on.last;
      is = on.is ∙ (λ i. record (canvas t base (canvas_of new row col pen) on.pending on.last) { lines = lines_are i; top = top_is i; row = base + row - top_is i });
    }

-- a terminal that shows the canvas of a drawing shows the drawing
pub open_agrees : (t : Term) (base : ℕ) (drawing : Drawing) (x : Term) → On t base (canvas_of drawing.grid drawing.row drawing.col plain) x → Agree x (put t base drawing false)
open_agrees t base drawing x on = ap forgotten on.is

-- ---- the end of a prompt

abbrev pub closing_controls : List Control
closing_controls = CR ∷ LF ∷ DECAWM true ∷ BracketedPaste false ∷ []

pub spells_closing : Spells closing closing_controls
spells_closing = spells_low closing closing_controls refl (λ rest. refl)

pub quiet_closing : IsQuiet closing
quiet_closing rest = refl

pub closes : (t : Term) (base rows cols : ℕ) (drawing : Drawing) (col : ℕ) (x : Term) → IsBase t base rows cols → 1 ≤ length drawing.grid → length drawing.grid ≤ rows
    → On t base (canvas_of drawing.grid (length drawing.grid - 1) col plain) x → Agree (acted x closing_controls) (put t base drawing true)
closes t base rows cols drawing col x good some few on =
    let lines = drawing.grid in
    let n = length lines in
    let a = take base t.lines in
    let top = top_for t base n in
    let new_top = top_for t base (n + 1) in
    let from = canvas t base (canvas_of lines (n - 1) col plain) on.pending on.last in
    let before : top ≤ base = top_before t base rows cols n good few in
    let row = base + (n - 1) - top in
    ap (λ y. forgotten (acted y closing_controls)) on.is
    ∙ ⊎_elim
    (λ (inside : row + 1 < t.rows).
    let test : nat_lt (row + 1) t.rows ≡ true = grind (arith, nat_tests) in
    let tops : top ≡ new_top = omega (arith, good.tall) in
    let row_is : row + 1 ≡ base + n - new_top = omega (arith, tops) in
    ap (λ b. forgotten (acted (fed_by b (returned from)) (DECAWM true ∷ BracketedPaste false ∷ []))) test
    ∙ (λ i. record (put t base drawing true) { lines = a ++ lines ++ blank_rows (tops i + t.rows - base - n) t.cols; top = tops i; row = row_is i }))
    (λ (outside : t.rows ≤ row + 1).
    let test : nat_lt (row + 1) t.rows ≡ false = grind (arith, nat_tests) in
    let tops : top + 1 ≡ new_top = omega (arith, good.tall) in
    let row_is : row ≡ base + n - new_top = omega (arith, tops) in
    let none : top + t.rows - base - n ≡ 0 = omega (arith, good.tall) in
    let one : 1 ≡ new_top + t.rows - base - n = omega (arith, good.tall, tops) in
    let lines_are : a ++ lines ++ blank_rows (top + t.rows - base - n) t.cols ++ blank_row t.cols ∷ [] ≡ a ++ lines ++ blank_rows (new_top + t.rows - base - n) t.cols =
    ap (λ k. a ++ lines ++ blank_rows k t.cols ++ blank_row t.cols ∷ []) none ∙ ap (λ ls. ls ++ blank_row t.cols ∷ []) (append-nil (a ++ lines))
    ∙ ap (λ k. a ++ lines ++ blank_rows k t.cols) one in
    ap (λ b. forgotten (acted (fed_by b (returned from)) (DECAWM true ∷ BracketedPaste false ∷ []))) test
    ∙ (λ i. record (put t base drawing true) { lines = lines_are i; top = tops i; row = row_is i }))
    (cases_lt (row + 1) t.rows)
