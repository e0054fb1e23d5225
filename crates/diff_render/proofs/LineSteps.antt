-- One line of a drawing after another.
use Prim.Native.Nat.{zero, suc}
use Rattle.std.proofs.Common.{◌≡◌, ℕ, ◌+◌, ◌-◌, ◌<◌, ◌≤◌, Bool, true, false, not, List, [], ◌∷◌, ◌++◌, length, take}
use Rattle.std.proofs.Common.{drop, nat_lt, Some, refl, sym, ap, ◌∙◌, subst, arith, append_assoc, append-nil}
use Rattle.std.proofs.Common.{length-append, length-take-le, drop-cons, ⊎_elim, if◌then◌else◌}
use Rattle.std.proofs.Math.Seq.{take-suc, get_or-append_right}
use Rattle.std.proofs.lemmas.Bool.{cases_lt}
use Rattle.std.proofs.lemmas.Bool.Decides.{nat_tests}
use Rattle.std.proofs.lemmas.List.{length-replicate, replicate-append-replicate, get_or_append_left, get_or_past}
use Rattle.cell_grid.specs.declared.cell.Cell.{Cell}
use Rattle.cell_grid.specs.Cell.{blank, same_cell}
use Rattle.cell_grid.specs.Row.{IsWhole, blank_row}
use Rattle.cell_grid.specs.Grid.{IsRow, blank_rows, row_at}
use Rattle.diff_render.specs.declared.writer.Writer.{Writer}
use Rattle.diff_render.specs.Changes.{cell_at, changed_in, changed_rows}
use Rattle.diff_render.specs.Writer.{IsPlaced, Grows, Stood}
use Rattle.unicode_width.specs.Width.{char_width}
use Rattle.cell_grid.specs.Drawable.{AllDrawable, AllRowsDrawable}
use Rattle.diff_render.specs.Redrawing.{MayTouch, Updates}
use Rattle.diff_render.specs.Redrawn.{padded, line_at, MayTouchRows, GrowsTo, RowsSoFar}
use Rattle.diff_render.proofs.Moves.{same_then}
use Rattle.diff_render.proofs.RowEnds.{blanks_whole}

-- ---- new lines

pub blank_is_row : (cols : ℕ) (row : List Cell) → row ≡ blank_row cols → IsRow cols row
blank_is_row cols row is = record {
  long = ap length is ∙ length-replicate cols blank;
  whole = subst IsWhole (sym is) (blanks_whole cols);
}

no_lines : (lines : List (List Cell)) (n cols : ℕ) → n ≡ 0 → lines ≡ lines ++ blank_rows n cols
no_lines lines n cols e = sym (ap (λ k. lines ++ blank_rows k cols) e ∙ append-nil lines)

pub grows_none : (w : Writer) → IsPlaced w → w.row + 1 ≡ w.height → GrowsTo w w w.height
grows_none w placed last = record {
  stands = λ ok from lines stood. subst (λ ls. Stood ok w from ls) (no_lines lines (w.height - w.height) w.cols (omega arith)) stood;
  to_row = last;
  to_pen = refl;
  rows = refl;
  cols = refl;
  to_height = refl;
  placed = placed;
  short = omega arith;
}

pub grows_more : (w v x : Writer) (at : ℕ) → w.height ≤ at → GrowsTo w v at → Grows v x → GrowsTo w x (at + 1)
grows_more w v x at low so_far more = record {
  stands = λ ok from lines stood.
      let n = at - w.height in
      let next : n + 1 ≡ at + 1 - w.height = omega arith in
      let same : lines ++ blank_rows n w.cols ++ blank_row v.cols ∷ [] ≡ lines ++ blank_rows (at + 1 - w.height) w.cols =
      ap (λ k. lines ++ blank_rows n w.cols ++ blank_row k ∷ []) so_far.cols ∙ append_assoc lines (blank_rows n w.cols) (blank_row w.cols ∷ [])
      ∙ ap (λ ls. lines ++ ls) (replicate-append-replicate n 1 (blank_row w.cols)) ∙ ap (λ k. lines ++ blank_rows k w.cols) next in
      subst (λ ls. Stood ok x from ls) same (more.stands ok from (lines ++ blank_rows n w.cols) (so_far.stands ok from lines stood));
  to_row = ap (λ k. k + 1) (more.to_row ∙ so_far.to_row);
  to_pen = more.to_pen ∙ so_far.to_pen;
  rows = more.rows ∙ so_far.rows;
  cols = more.cols ∙ so_far.cols;
  to_height = more.height ∙ ap (λ k. k + 1) so_far.to_height;
  placed = more.placed;
  short = omega (arith, so_far.short, more.short);
}

-- ---- padded drawings

pub length_padded : (height cols : ℕ) (rows : List (List Cell)) → length rows ≤ height → length (padded height cols rows) ≡ height
length_padded height cols rows few =
    omega (arith, length-append rows (blank_rows (height - length rows) cols), length-replicate (height - length rows) (blank_row cols))

pub padded_at : (height cols : ℕ) (rows : List (List Cell)) (at : ℕ) → at < height → row_at (padded height cols rows) at ≡ line_at cols rows at
padded_at height cols rows at within = ⊎_elim
    (λ (inside : at < length rows).
    let t : nat_lt at (length rows) ≡ true = grind (arith, nat_tests) in
    get_or_append_left rows (blank_rows (height - length rows) cols) [] at inside ∙ sym (ap (λ b. if b then row_at rows at else blank_row cols) t))
    (λ (outside : length rows ≤ at).
    let t : nat_lt at (length rows) ≡ false = grind (arith, nat_tests) in
    get_or-append_right rows (blank_rows (height - length rows) cols) at [] outside
    ∙ blank_at (height - length rows) (at - length rows) (omega arith)
    ∙ sym (ap (λ b. if b then row_at rows at else blank_row cols) t))
    (cases_lt at (length rows))
  where
    blank_at : (n k : ℕ) → k < n → row_at (blank_rows n cols) k ≡ blank_row cols
    blank_at zero k h = absurd (omega arith)
    blank_at (suc n) zero h = refl
    blank_at (suc n) (suc k) h = blank_at n k (omega arith)

-- each cell of a blank row is blank, and so is each one behind it
pub blank_cell : (n k : ℕ) → cell_at (blank_row n) k ≡ blank
blank_cell zero k = refl
blank_cell (suc n) zero = refl
blank_cell (suc n) (suc k) = blank_cell n k

pub cell_of_line : (cols : ℕ) (rows : List (List Cell)) (at col : ℕ) → cell_at (line_at cols rows at) col ≡ cell_at (row_at rows at) col
cell_of_line cols rows at col = ⊎_elim
    (λ (inside : at < length rows).
    let t : nat_lt at (length rows) ≡ true = grind (arith, nat_tests) in ap (λ b. cell_at (if b then row_at rows at else blank_row cols) col) t)
    (λ (outside : length rows ≤ at).
    let t : nat_lt at (length rows) ≡ false = grind (arith, nat_tests) in
    ap (λ b. cell_at (if b then row_at rows at else blank_row cols) col) t ∙ blank_cell cols col ∙ sym (ap (λ r. cell_at r col) (get_or_past rows at [] outside)))
    (cases_lt at (length rows))

not_same : (b : Bool) → b ≡ false → not b ≡ true
not_same b e = rw e refl

-- a place of a line passes where it passes as a place of the drawing
pub may_touch_line : (ok : ℕ → ℕ → Bool) (cols : ℕ) (old new : List (List Cell)) (at : ℕ) → MayTouchRows ok old new → MayTouch ok at (line_at cols old at) (line_at cols new at)
may_touch_line ok cols old new at may col differ =
    may at col
    (not_same (same_cell (cell_at (row_at old at) col) (cell_at (row_at new at) col))
    (ap (λ c. same_cell c (cell_at (row_at new at) col)) (sym (cell_of_line cols old at col)) ∙ ap (λ c. same_cell (cell_at (line_at cols old at) col) c) (sym (cell_of_line cols new at col)) ∙ differ))

-- ---- one line more

pub line_at_place : (rows : List (List Cell)) (at : ℕ) → at < length rows → drop at rows ≡ row_at rows at ∷ drop (at + 1) rows
line_at_place rows at h = let next : suc at ≡ at + 1 = omega arith in drop-cons rows at [] h ∙ ap (λ k. row_at rows at ∷ drop k rows) next

up_to_line : (rows : List (List Cell)) (at : ℕ) → at < length rows → take (at + 1) rows ≡ take at rows ++ row_at rows at ∷ []
up_to_line rows at h = let next : at + 1 ≡ suc at = omega arith in ap (λ k. take k rows) next ∙ take-suc rows at [] h

pub rows_none : (w : Writer) (old new : List (List Cell)) → IsPlaced w → RowsSoFar w w old new 0 0
rows_none w old new placed = record {
  stands = λ ok from may stood. stood;
  same = record { rows = refl; cols = refl; height = refl };
  placed = placed;
  short = omega arith;
}

pub line_old : (height cols : ℕ) (rows : List (List Cell)) (at : ℕ) → length rows ≤ height → at < height
    → drop at (padded height cols rows) ≡ line_at cols rows at ∷ drop (at + 1) (padded height cols rows)
line_old height cols rows at few within =
    let all = padded height cols rows in
    line_at_place all at (omega (arith, length_padded height cols rows few)) ∙ ap (λ r. r ∷ drop (at + 1) all) (padded_at height cols rows at within)

-- what changes from a line on
pub changed_here : (height cols : ℕ) (old new : List (List Cell)) (at : ℕ) → length old ≤ height → length new ≤ height → at < height
    → changed_rows cols (drop at (padded height cols old)) (drop at (padded height cols new))
    ≡ changed_in (line_at cols old at) (line_at cols new at) + changed_rows cols (drop (at + 1) (padded height cols old)) (drop (at + 1) (padded height cols new))
changed_here height cols old new at few_old few_new within =
    ap (λ r. changed_rows cols r (drop at (padded height cols new))) (line_old height cols old at few_old within)
    ∙ ap (λ r. changed_rows cols (line_at cols old at ∷ drop (at + 1) (padded height cols old)) r) (line_old height cols new at few_new within)

pub rows_more : (w v x : Writer) (old new : List (List Cell)) (first at : ℕ) → first ≤ at → length old ≤ w.height → length new ≤ w.height → at < w.height
    → RowsSoFar w v old new first at → Updates v x at (line_at w.cols old at) (line_at w.cols new at) 7 → RowsSoFar w x old new first (at + 1)
rows_more w v x old new first at behind few_old few_new within so_far updates =
    let height = w.height in
    let olds = padded height w.cols old in
    let news = padded height w.cols new in
    let o = line_at w.cols old at in
    let n = line_at w.cols new at in
    let in_new : at < length news = omega (arith, length_padded height w.cols new few_new) in
    let is_o : drop at olds ≡ o ∷ drop (at + 1) olds = line_old height w.cols old at few_old within in
    record {
      stands = λ ok from may stood.
          let before : Stood ok v from (take at news ++ o ∷ drop (at + 1) olds) =
          subst (λ ls. Stood ok v from (take at news ++ ls)) is_o (so_far.stands ok from may stood) in
          let after : take at news ++ n ∷ drop (at + 1) olds ≡ take (at + 1) news ++ drop (at + 1) olds =
          sym (ap (λ ls. ls ++ drop (at + 1) olds) (up_to_line news at in_new ∙ ap (λ r. take at news ++ r ∷ []) (padded_at height w.cols new at within))
          ∙ append_assoc (take at news) (n ∷ []) (drop (at + 1) olds)) in
          subst (λ ls. Stood ok x from ls) after
          (updates.stands ok from (take at news) (drop (at + 1) olds) (length-take-le at news (omega arith)) (may_touch_line ok w.cols old new at may) before);
      same = same_then w v x so_far.same updates.same;
      placed = updates.placed;
      short = omega (arith, so_far.short, updates.short, changed_here height w.cols old new at few_old few_new within);
    }

-- ---- all lines

pub blanks_unchanged : (n : ℕ) → changed_in (blank_row n) (blank_row n) ≡ 0
blanks_unchanged zero = refl
blanks_unchanged (suc n) = ap (λ k. 0 + k) (blanks_unchanged n)

blank_lines_unchanged : (cols n : ℕ) → changed_rows cols (blank_rows n cols) (blank_rows n cols) ≡ 0
blank_lines_unchanged cols zero = refl
blank_lines_unchanged cols (suc n) = ap (λ k. k + changed_rows cols (blank_rows n cols) (blank_rows n cols)) (blanks_unchanged cols) ∙ omega (arith, blank_lines_unchanged cols n)

-- blank rows behind both drawings change nothing
changed_pads : (cols : ℕ) (old new : List (List Cell)) (k l : ℕ) → length old + k ≡ length new + l
    → changed_rows cols (old ++ blank_rows k cols) (new ++ blank_rows l cols) ≡ changed_rows cols old new
changed_pads cols [] [] k l e = let same : l ≡ k = omega arith in ap (λ n. changed_rows cols (blank_rows k cols) (blank_rows n cols)) same ∙ blank_lines_unchanged cols k
changed_pads cols [] (n ∷ ns) zero l e = absurd (omega arith)
changed_pads cols [] (n ∷ ns) (suc k) l e = ap (λ x. changed_in (blank_row cols) n + x) (changed_pads cols [] ns k l (omega arith))
changed_pads cols (o ∷ os) [] k zero e = absurd (omega arith)
changed_pads cols (o ∷ os) [] k (suc l) e = ap (λ x. changed_in o (blank_row cols) + x) (changed_pads cols os [] k l (omega arith))
changed_pads cols (o ∷ os) (n ∷ ns) k l e = ap (λ x. changed_in o n + x) (changed_pads cols os ns k l (omega arith))

pub changed_padded : (cols height : ℕ) (old new : List (List Cell)) → length old ≤ height → length new ≤ height
    → changed_rows cols (padded height cols old) (padded height cols new) ≡ changed_rows cols old new
changed_padded cols height old new h k = changed_pads cols old new (height - length old) (height - length new) (omega arith)

pub all_taken : (rows : List (List Cell)) (n : ℕ) → length rows ≡ n → take n rows ≡ rows
all_taken [] zero e = refl
all_taken [] (suc n) e = refl
all_taken (r ∷ rs) zero e = absurd (omega arith)
all_taken (r ∷ rs) (suc n) e = ap (λ x. r ∷ x) (all_taken rs n (omega arith))

pub all_dropped : (rows : List (List Cell)) (n : ℕ) → length rows ≡ n → drop n rows ≡ []
all_dropped [] zero e = refl
all_dropped [] (suc n) e = refl
all_dropped (r ∷ rs) zero e = absurd (omega arith)
all_dropped (r ∷ rs) (suc n) e = all_dropped rs n (omega arith)

-- ---- the cells of a line can be drawn

blank_width : char_width false 32 ≡ Some 1
unfolding char_width
blank_width = refl

blanks_drawable : (n : ℕ) → AllDrawable (blank_row n)
blanks_drawable zero = tt
blanks_drawable (suc n) = (((blank_width, tt), (tt, tt)), blanks_drawable n)

pub row_drawable : (rows : List (List Cell)) (at : ℕ) → AllRowsDrawable rows → AllDrawable (row_at rows at)
row_drawable [] at h = tt
row_drawable (r ∷ rs) zero h = h.0
row_drawable (r ∷ rs) (suc at) h = row_drawable rs at h.1

pub line_drawable : (cols : ℕ) (rows : List (List Cell)) (at : ℕ) → AllRowsDrawable rows → AllDrawable (line_at cols rows at)
line_drawable cols rows at h = ⊎_elim
    (λ (inside : at < length rows).
    let t : nat_lt at (length rows) ≡ true = grind (arith, nat_tests) in
    subst AllDrawable (sym (ap (λ b. if b then row_at rows at else blank_row cols) t)) (row_drawable rows at h))
    (λ (outside : length rows ≤ at).
    let t : nat_lt at (length rows) ≡ false = grind (arith, nat_tests) in
    subst AllDrawable (sym (ap (λ b. if b then row_at rows at else blank_row cols) t)) (blanks_drawable cols))
    (cases_lt at (length rows))

pub updates_as : (v x : Writer) (at : ℕ) (o n p q : List Cell) → o ≡ p → n ≡ q → Updates v x at o n 7 → Updates v x at p q 7
updates_as v x at o n p q e f updates = rw (← e, ← f) updates
