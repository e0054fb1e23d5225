-- What each control of a frame does to a canvas.
use Prim.Native.Nat.{suc}
use Rattle.std.proofs.Common.{◌≡◌, ℕ, ◌+◌, ◌-◌, ◌<◌, ◌≤◌, Bool, true, false, List, [], ◌∷◌, ◌++◌, length, take}
use Rattle.std.proofs.Common.{nat_lt, min, Option, None, refl, sym, ap, ◌∙◌, arith, append_assoc, append-nil}
use Rattle.std.proofs.Common.{length-append, ⊎_elim}
use Rattle.std.proofs.lemmas.Bool.{cases_lt}
use Rattle.std.proofs.lemmas.Bool.Decides.{nat_tests}
use Rattle.cell_grid.specs.declared.cell.Cell.{Cell}
use Rattle.cell_grid.specs.declared.attrs.Attrs.{Attrs}
use Rattle.cell_grid.specs.Attrs.{plain}
use Rattle.cell_grid.specs.Row.{blank_row}
use Rattle.cell_grid.specs.Grid.{blank_rows}
use Rattle.term_model.specs.Controls.{Control, CR, LF, CUU, CUF, CUB, SGR}
use Rattle.term_model.specs.Rendition.{styled}
use Rattle.term_model.specs.Obeying.{act, acted, fed_by}
use Rattle.term_model.specs.Term.{Term}
use Rattle.diff_render.specs.Canvas.{Canvas, canvas_of, top_for, canvas, On, IsBase, Does}

-- one control, where it leads from each canvas to a canvas
pub one : (t : Term) (base : ℕ) (from : Canvas) (x : Term) (control : Control) (pending : Bool) (last : Option (ℕ × ℕ)) (to : Canvas) (on : On t base from x)
    → act (canvas t base from on.pending on.last) control ≡ canvas t base to pending last → On t base to (acted x (control ∷ []))
one t base from x control pending last to on step = record {
  pending = pending;
  last = last;
  is = ap (λ y. act y control) on.is ∙ step;
}

-- the same canvas but for its column, and but for its row
col_is : (t : Term) (base : ℕ) (lines : List (List Cell)) (row old new : ℕ) (pen : Attrs) (pending : Bool) (last : Option (ℕ × ℕ)) → old ≡ new
    → canvas t base (canvas_of lines row old pen) pending last ≡ canvas t base (canvas_of lines row new pen) pending last
col_is t base lines row old new pen pending last e = ap (λ k. canvas t base (canvas_of lines row k pen) pending last) e

pub does_return : (rows cols : ℕ) (lines : List (List Cell)) (row col : ℕ) (pen : Attrs)
    → Does rows cols (CR ∷ []) (canvas_of lines row col pen) (canvas_of lines row 0 pen)
does_return rows cols lines row col pen t base good x on =
    one t base (canvas_of lines row col pen) x CR false None (canvas_of lines row 0 pen) on refl

pub does_right : (rows cols : ℕ) (lines : List (List Cell)) (row col : ℕ) (pen : Attrs) (n : ℕ) → col + n < cols
    → Does rows cols (CUF n ∷ []) (canvas_of lines row col pen) (canvas_of lines row (col + n) pen)
does_right rows cols lines row col pen n fits t base good x on =
    let e : min (col + n) (t.cols - 1) ≡ col + n = omega (arith, good.wide) in
    one t base (canvas_of lines row col pen) x (CUF n) false None (canvas_of lines row (col + n) pen) on
    (col_is t base lines row (min (col + n) (t.cols - 1)) (col + n) pen false None e)

pub does_left : (rows cols : ℕ) (lines : List (List Cell)) (row col : ℕ) (pen : Attrs) (n : ℕ)
    → Does rows cols (CUB n ∷ []) (canvas_of lines row col pen) (canvas_of lines row (col - n) pen)
does_left rows cols lines row col pen n t base good x on =
    one t base (canvas_of lines row col pen) x (CUB n) false None (canvas_of lines row (col - n) pen) on refl

pub does_up : (rows cols : ℕ) (lines : List (List Cell)) (row col : ℕ) (pen : Attrs) (n : ℕ) → n ≤ row
    → Does rows cols (CUU n ∷ []) (canvas_of lines row col pen) (canvas_of lines (row - n) col pen)
does_up rows cols lines row col pen n fits t base good x on =
    let top = top_for t base (length lines) in
    let e : base + row - top - n ≡ base + (row - n) - top = omega arith in
    one t base (canvas_of lines row col pen) x (CUU n) false None (canvas_of lines (row - n) col pen) on
    (ap (λ r. record (canvas t base (canvas_of lines row col pen) false None) { row = r }) e)

pub does_pen : (rows cols : ℕ) (lines : List (List Cell)) (row col : ℕ) (old new : Attrs) (numbers : List ℕ) → styled old numbers ≡ new
    → Does rows cols (SGR numbers ∷ []) (canvas_of lines row col old) (canvas_of lines row col new)
does_pen rows cols lines row col old new numbers e t base good x on =
    one t base (canvas_of lines row col old) x (SGR numbers) on.pending on.last (canvas_of lines row col new) on
    (ap (λ p. canvas t base (canvas_of lines row col p) on.pending on.last) e)

-- ---- line feeds

row_below : (top base row : ℕ) → top ≤ base → base + row - top + 1 ≡ base + (row + 1) - top
row_below top base row h = omega arith

pub top_before : (t : Term) (base rows cols height : ℕ) → IsBase t base rows cols → height ≤ rows → top_for t base height ≤ base
top_before t base rows cols height good few = omega (arith, good.tall, good.behind_top)

below_fits : (t : Term) (base rows cols height row : ℕ) → IsBase t base rows cols → height ≤ rows → row + 1 < height
    → nat_lt (base + row - top_for t base height + 1) t.rows ≡ true
below_fits t base rows cols height row good few fits =
    let h : base + row - top_for t base height + 1 < t.rows = omega (arith, good.tall, good.behind_top) in grind (arith, nat_tests)

pub does_down : (rows cols : ℕ) (lines : List (List Cell)) (row col : ℕ) (pen : Attrs) → length lines ≤ rows → row + 1 < length lines
    → Does rows cols (LF ∷ []) (canvas_of lines row col pen) (canvas_of lines (row + 1) col pen)
does_down rows cols lines row col pen few fits t base good x on =
    let top = top_for t base (length lines) in
    let from = canvas t base (canvas_of lines row col pen) on.pending on.last in
    one t base (canvas_of lines row col pen) x LF false None (canvas_of lines (row + 1) col pen) on
    (ap (λ b. fed_by b from) (below_fits t base rows cols (length lines) row good few fits)
    ∙ ap (λ r. record (canvas t base (canvas_of lines row col pen) false None) { row = r }) (row_below top base row (top_before t base rows cols (length lines) good few)))

-- a blank line behind the lines of a canvas is one of its lines
grown : (front lines rest : List (List Cell)) (line : List Cell) → front ++ lines ++ (line ∷ rest) ≡ front ++ (lines ++ line ∷ []) ++ rest
grown front lines rest line =
    sym (ap (λ x. x ++ rest) (sym (append_assoc front lines (line ∷ []))) ∙ append_assoc (front ++ lines) (line ∷ []) rest)

pub does_grow : (rows cols : ℕ) (lines : List (List Cell)) (row col : ℕ) → length lines < rows → row + 1 ≡ length lines
    → Does rows cols (LF ∷ []) (canvas_of lines row col plain) (canvas_of (lines ++ blank_row cols ∷ []) (row + 1) col plain)
does_grow rows cols lines row col few last_row t base good x on =
    let n = length lines in
    let more = lines ++ blank_row cols ∷ [] in
    let front = take base t.lines in
    let top = top_for t base n in
    let new_top = top_for t base (length more) in
    let from = canvas t base (canvas_of lines row col plain) on.pending on.last in
    let len : length more ≡ n + 1 = length-append lines (blank_row cols ∷ []) in
    let before : top ≤ base = top_before t base rows cols n good (omega arith) in
    let above : base + n ≤ top + t.rows = omega arith in
    one t base (canvas_of lines row col plain) x LF false None (canvas_of more (row + 1) col plain) on
    (⊎_elim
    (λ (inside : base + row - top + 1 < t.rows).
    let test : nat_lt (base + row - top + 1) t.rows ≡ true = grind (arith, nat_tests) in
    let tops : top ≡ new_top = omega (arith, len) in
    let rows_are : base + row - top + 1 ≡ base + (row + 1) - new_top = omega (arith, tops) in
    let count : top + t.rows - base - n ≡ suc (new_top + t.rows - base - length more) = omega (arith, len, tops) in
    let lines_are : front ++ lines ++ blank_rows (top + t.rows - base - n) t.cols ≡ front ++ more ++ blank_rows (new_top + t.rows - base - length more) t.cols =
    ap (λ k. front ++ lines ++ blank_rows k t.cols) count ∙ grown front lines (blank_rows (new_top + t.rows - base - length more) t.cols) (blank_row t.cols)
    ∙ ap (λ k. front ++ (lines ++ blank_row k ∷ []) ++ blank_rows (new_top + t.rows - base - length more) t.cols) good.wide in
    ap (λ b. fed_by b from) test ∙ (λ i. record from { lines = lines_are i; top = tops i; row = rows_are i; pending = false; last = None }))
    (λ (outside : t.rows ≤ base + row - top + 1).
    let test : nat_lt (base + row - top + 1) t.rows ≡ false = grind (arith, nat_tests) in
    let tops : top + 1 ≡ new_top = omega (arith, len) in
    let rows_are : base + row - top ≡ base + (row + 1) - new_top = omega (arith, tops) in
    let none : top + t.rows - base - n ≡ 0 = omega (arith) in
    let still : new_top + t.rows - base - length more ≡ 0 = omega (arith, len, tops) in
    let lines_are : front ++ lines ++ blank_rows (top + t.rows - base - n) t.cols ++ blank_row t.cols ∷ []
    ≡ front ++ more ++ blank_rows (new_top + t.rows - base - length more) t.cols =
    ap (λ k. front ++ lines ++ blank_rows k t.cols ++ blank_row t.cols ∷ []) none
    ∙ ap (λ x. x ++ blank_row t.cols ∷ []) (append-nil (front ++ lines)) ∙ append_assoc front lines (blank_row t.cols ∷ [])
    ∙ ap (λ k. front ++ (lines ++ blank_row k ∷ [])) good.wide ∙ sym (append-nil (front ++ more))
    ∙ ap (λ k. front ++ more ++ blank_rows k t.cols) (sym still) in
    ap (λ b. fed_by b from) test ∙ (λ i. record from { lines = lines_are i; top = tops i; row = rows_are i; pending = false; last = None }))
    (cases_lt (base + row - top + 1) t.rows))
