-- How a drawing begins where none is on the screen.
use Prim.Native.Nat.{zero, suc}
use Rattle.std.proofs.Common.{◌≡◌, ℕ, ◌+◌, ◌-◌, ◌<◌, Bool, true, false, List, [], ◌∷◌, ◌++◌, length, take, replicate}
use Rattle.std.proofs.Common.{Option, None, refl, sym, ap, ◌∙◌, arith, append_assoc, append-nil, length-take-le}
use Rattle.std.proofs.lemmas.List.{length-replicate}
use Rattle.cell_grid.specs.declared.cell.Cell.{Cell}
use Rattle.cell_grid.specs.Attrs.{plain}
use Rattle.cell_grid.specs.Cell.{blank}
use Rattle.cell_grid.specs.Row.{blank_row, laid_at, mend_start}
use Rattle.cell_grid.specs.Grid.{AllRows, blank_rows, row_at}
use Rattle.term_model.specs.Controls.{Control, CR, ED, SGR, DECAWM, DECTCEM, BracketedPaste}
use Rattle.term_model.specs.Term.{Term, IsTerminal}
use Rattle.term_model.specs.Obeying.{acted}
use Rattle.diff_render.specs.Canvas.{canvas, canvas_of, top_for, IsBase, On, Spells, IsQuiet}
use Rattle.diff_render.specs.Opening.{opening}
use Rattle.diff_render.proofs.Reading.{spells_low}
use Rattle.diff_render.proofs.RowEnds.{rest_none}

abbrev pub opening_controls : List Control
opening_controls = CR ∷ SGR (0 ∷ []) ∷ ED ∷ DECAWM false ∷ BracketedPaste true ∷ DECTCEM true ∷ []

pub spells_opening : Spells opening opening_controls
spells_opening = spells_low opening opening_controls refl (λ rest. refl)

pub quiet_opening : IsQuiet opening
quiet_opening rest = refl

-- each line of a terminal is as wide as its columns
line_width : (cols : ℕ) (lines : List (List Cell)) (at : ℕ) → AllRows cols lines → at < length lines → length (row_at lines at) ≡ cols
line_width cols [] at h within = absurd (omega arith)
line_width cols (l ∷ ls) zero h within = h.0.long
line_width cols (l ∷ ls) (suc at) h within = line_width cols ls at h.1 (omega arith)

-- a line that is erased from its first column on
erased_whole : (line : List Cell) (cols : ℕ) → length line ≡ cols → laid_at line 0 (replicate (cols - 0) blank) ≡ blank_row cols
erased_whole line cols long =
    let k : cols - 0 ≡ cols = omega arith in
    ap (λ x. blank_row (cols - 0) ++ mend_start x) (rest_none line (0 + length (blank_row (cols - 0))) (omega (arith, length-replicate (cols - 0) blank)))
    ∙ append-nil (blank_row (cols - 0)) ∙ ap blank_row k

-- the terminal whose cursor went up some rows
unfoldable pub climbed : Term → ℕ → Bool → Option (ℕ × ℕ) → Term
climbed t n pending last = record t { row = t.row - n; pending = pending; last = last }

pub base_is : (t : Term) (n rows cols : ℕ) → IsTerminal t → t.rows ≡ rows → t.cols ≡ cols → IsBase t (t.top + (t.row - n)) rows cols
base_is t n rows cols good tall wide = record {
  tall = tall;
  wide = wide;
  behind_top = omega arith;
  in_window = omega (arith, good.row);
  before = length-take-le (t.top + (t.row - n)) t.lines (omega (arith, good.row, good.count));
}

pub opened : (t : Term) (n : ℕ) (pending : Bool) (last : Option (ℕ × ℕ)) → IsTerminal t
    → On t (t.top + (t.row - n)) (canvas_of (blank_row t.cols ∷ []) 0 0 plain) (acted (climbed t n pending last) opening_controls)
unfolding climbed
opened t n pending last good =
    let base = t.top + (t.row - n) in
    let line = row_at t.lines base in
    let a = take base t.lines in
    let top : t.top ≡ top_for t base 1 = omega (arith, good.row) in
    let long : length line ≡ t.cols = line_width t.cols t.lines base good.wide (omega (arith, good.row, good.count)) in
    let count : t.rows - (t.row - n + 1) ≡ top_for t base 1 + t.rows - base - 1 = omega (arith, good.row, top) in
    let row : t.row - n ≡ base + 0 - top_for t base 1 = omega (arith, top) in
    let lines : a ++ laid_at line 0 (replicate (t.cols - 0) blank) ∷ blank_rows (t.rows - (t.row - n + 1)) t.cols
    ≡ a ++ (blank_row t.cols ∷ []) ++ blank_rows (top_for t base 1 + t.rows - base - 1) t.cols =
    ap (λ l. a ++ l ∷ blank_rows (t.rows - (t.row - n + 1)) t.cols) (erased_whole line t.cols long)
    ∙ ap (λ k. a ++ blank_row t.cols ∷ blank_rows k t.cols) count
    ∙ sym (append_assoc a (blank_row t.cols ∷ []) (blank_rows (top_for t base 1 + t.rows - base - 1) t.cols)) in
    record {
      pending = false;
      last = None;
      is = λ i. record (canvas t base (canvas_of (blank_row t.cols ∷ []) 0 0 plain) false None) { lines = lines i; top = top i; row = row i };
    }
