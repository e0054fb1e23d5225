-- The end of a line, where the new one is blank.
use Prim.Native.Nat.{zero, suc}
use Rattle.std.proofs.Common.{◌≡◌, ℕ, ◌+◌, ◌-◌, ◌<◌, ◌≤◌, true, false, not, ◌&&◌, List, [], ◌∷◌, ◌++◌, length, take}
use Rattle.std.proofs.Common.{drop, refl, sym, ap, ◌∙◌, subst, arith, append-nil, length-take-le, length-drop}
use Rattle.std.proofs.Common.{take-append-drop, ⊎_elim, inl}
use Rattle.std.proofs.Math.Seq.{take-append_seam, take-length}
use Rattle.std.proofs.lemmas.Bool.{cases_Bool, false≢true}
use Rattle.std.proofs.lemmas.List.{length-replicate, get_or-drop}
use Rattle.cell_grid.specs.declared.cell.Cell.{Cell}
use Rattle.cell_grid.specs.Attrs.{plain}
use Rattle.cell_grid.specs.Cell.{blank, same_cell}
use Rattle.cell_grid.specs.Same.{same_cell-Decides}
use Rattle.cell_grid.specs.Row.{IsWhole, mend_end, mend_start, blank_row, laid_at}
use Rattle.cell_grid.specs.Grid.{blank_rows}
use Rattle.diff_render.specs.declared.writer.Writer.{Writer}
use Rattle.diff_render.specs.Changes.{cell_at, one_if_not, changed_in}
use Rattle.diff_render.specs.Writer.{IsPlaced, Moves, Erases, ErasesBelow, Stood}
use Rattle.diff_render.specs.Redrawing.{ErasesFrom, IsBlankFrom, settled, half_drawn, RowSoFar, Updates}
use Rattle.diff_render.proofs.CellSteps.{not_false, not_true}
use Rattle.diff_render.proofs.Moves.{same_then}
use Rattle.diff_render.proofs.RowSteps.{front_kept, start_kept, settled_whole, length_half}
use lib.Pointwise.{pointwise, pointwise_decides}

-- ---- blanks

all_blank : (cells : List Cell) → ((k : ℕ) → k < length cells → cell_at cells k ≡ blank) → cells ≡ blank_row (length cells)
all_blank [] h = refl
all_blank (c ∷ cs) h =
    ap (λ x. x ∷ cs) (h 0 (omega arith)) ∙ ap (λ xs. blank ∷ xs) (all_blank cs (λ k within. h (suc k) (omega arith)))

pub blank_rest : (cells : List Cell) (at : ℕ) → at ≤ length cells → IsBlankFrom at cells → drop at cells ≡ blank_row (length cells - at)
blank_rest cells at within h =
    all_blank (drop at cells) (λ k inside. get_or-drop at cells k blank ∙ h (at + k) (omega arith) (omega (arith, length-drop at cells)))
    ∙ ap blank_row (length_is)
  where
    length_is : length (drop at cells) ≡ length cells - at
    length_is = omega (arith, length-drop at cells)

pub blanks_whole : (n : ℕ) → IsWhole (blank_row n)
blanks_whole zero = tt
blanks_whole (suc n) = inl (refl, blanks_whole n)

-- ---- a line that is redrawn whole

half_all : (old new : List Cell) → length old ≡ length new → half_drawn old new (length new) ≡ new
half_all old new same =
    ap (λ x. take (length new) new ++ settled x (drop (length new) old)) (drop_end new)
    ∙ ap (λ x. take (length new) new ++ mend_start x) (ap (λ n. drop n old) (sym same) ∙ drop_end old)
    ∙ append-nil (take (length new) new) ∙ take-length new
  where
    drop_end : (cells : List Cell) → drop (length cells) cells ≡ []
    drop_end [] = refl
    drop_end (c ∷ cs) = drop_end cs

nothing_left : (old new : List Cell) → length old ≡ length new → changed_in (drop (length new) old) (drop (length new) new) ≡ 0
nothing_left old new same = ap (λ n. changed_in (drop n old) (drop (length new) new)) (sym same) ∙ none old (drop (length new) new)
  where
    none : (cells more : List Cell) → changed_in (drop (length cells) cells) more ≡ 0
    none [] more = refl
    none (c ∷ cs) more = none cs more

pub same_cells : (a b : List Cell) → pointwise same_cell a b ≡ true → a ≡ b
same_cells a b h = (pointwise_decides same_cell-Decides a b).0 h

pub differ_somewhere : (a b : List Cell) → length a ≡ length b → pointwise same_cell a b ≡ false → 1 ≤ changed_in a b
differ_somewhere [] [] e h = absurd (false≢true (sym h))
differ_somewhere [] (d ∷ ds) e h = absurd (omega arith)
differ_somewhere (c ∷ cs) [] e h = absurd (omega arith)
differ_somewhere (c ∷ cs) (d ∷ ds) e h = ⊎_elim
    (λ (same : same_cell c d ≡ true).
    let rest : pointwise same_cell cs ds ≡ false = sym (ap (λ b. b && pointwise same_cell cs ds) same) ∙ h in
    omega (arith, differ_somewhere cs ds (omega arith) rest))
    (λ (differ : same_cell c d ≡ false). let one : one_if_not (same_cell c d) ≡ 1 = ap one_if_not differ in omega (arith, one))
    (cases_Bool (same_cell c d))

-- what is left was the same
pub row_same_end : (w v : Writer) (old new : List Cell) (end : ℕ) → length old ≡ length new → end ≤ length new → IsBlankFrom end new → drop end old ≡ drop end new
    → RowSoFar w v old new end → RowSoFar w v old new (length new)
row_same_end w v old new end same within blanks rest so_far =
    let left = length new - end in
    let is : drop end new ≡ blank_row left = blank_rest new end within blanks in
    let whole : IsWhole (drop end new) = subst IsWhole (sym is) (blanks_whole left) in
    let line : half_drawn old new end ≡ half_drawn old new (length new) =
    ap (λ x. take end new ++ x) (settled_whole (drop end new) (drop end old) whole ∙ ap mend_start rest ∙ start_kept (drop end new) whole)
    ∙ take-append-drop end new ∙ sym (half_all old new same) in
    record {
      stands = λ ok from above below place may stood. subst (λ l. Stood ok v from (above ++ l ∷ below)) line (so_far.stands ok from above below place may stood);
      to_row = so_far.to_row;
      same = so_far.same;
      placed = so_far.placed;
      short = omega (arith, so_far.short, nothing_left old new same);
    }

erased_is_new : (old new : List Cell) (end cols : ℕ) → length old ≡ cols → length new ≡ cols → end < length new → IsBlankFrom end new → IsWhole new
    → laid_at (half_drawn old new end) end (blank_row (cols - end)) ≡ new
erased_is_new old new end cols long_old long_new within blanks whole =
    let half = half_drawn old new end in
    let left = cols - end in
    let some : left ≡ suc (left - 1) = omega arith in
    let rest : drop end new ≡ blank_row left = blank_rest new end (omega arith) blanks ∙ ap (λ n. blank_row (n - end)) long_new in
    let front : take end half ≡ take end new =
    ap (λ n. take n half) (sym (length-take-le end new (omega arith))) ∙ take-append_seam (take end new) (settled (drop end new) (drop end old)) in
    let cut : new ≡ take end new ++ blank ∷ blank_row (left - 1) = sym (take-append-drop end new) ∙ ap (λ x. take end new ++ x) (rest ∙ ap blank_row some) in
    let kept : mend_end (take end new) ≡ take end new = front_kept false (take end new) (32 ∷ []) 1 plain (blank_row (left - 1)) (subst IsWhole cut whole) in
    let high : length half ≡ cols = length_half old new end (long_old ∙ sym long_new) (omega arith) ∙ long_old in
    let gone : drop (end + length (blank_row left)) half ≡ [] = drop_past (end + length (blank_row left)) half (omega (arith, length-replicate left blank)) in
    ap (λ x. mend_end x ++ blank_row left ++ mend_start (drop (end + length (blank_row left)) half)) front
    ∙ ap (λ x. x ++ blank_row left ++ mend_start (drop (end + length (blank_row left)) half)) kept
    ∙ ap (λ x. take end new ++ blank_row left ++ mend_start x) gone ∙ append-nil (take end new ++ blank_row left)
    ∙ ap (λ x. take end new ++ x) (sym rest) ∙ take-append-drop end new
  where
    drop_past : (n : ℕ) (cells : List Cell) → length cells ≤ n → drop n cells ≡ []
    drop_past zero [] h = refl
    drop_past zero (c ∷ cs) h = absurd (omega arith)
    drop_past (suc n) [] h = refl
    drop_past (suc n) (c ∷ cs) h = drop_past n cs (omega arith)

-- what is left is erased
pub row_erased : (w v a b x : Writer) (old new : List Cell) (end : ℕ) → length old ≡ w.cols → length new ≡ w.cols → end < length new → IsBlankFrom end new → IsWhole new
    → pointwise same_cell (drop end old) (drop end new) ≡ false → RowSoFar w v old new end → Moves v a v.row end v.pen 7 → Moves a b a.row a.col plain 3 → Erases b x
    → RowSoFar w x old new (length new)
row_erased w v a b x old new end long_old long_new within blanks whole differ so_far goes takes erases =
    let same = same_then w v x so_far.same (same_then v a x goes.same (same_then a b x takes.same erases.same)) in
    let row : b.row ≡ w.row = takes.to_row ∙ goes.to_row ∙ so_far.to_row in
    let col : b.col ≡ end = takes.to_col ∙ goes.to_col in
    let cols : b.cols ≡ w.cols = takes.same.cols ∙ goes.same.cols ∙ so_far.same.cols in
    let half = half_drawn old new end in
    let some : 1 ≤ changed_in (drop end old) (drop end new) = differ_somewhere (drop end old) (drop end new) (omega (arith, length-drop end old, length-drop end new)) differ in
    let line : laid_at half b.col (blank_row (b.cols - b.col)) ≡ half_drawn old new (length new) =
    ap (λ k. laid_at half k (blank_row (b.cols - k))) col ∙ ap (λ n. laid_at half end (blank_row (n - end))) cols
    ∙ erased_is_new old new end w.cols long_old long_new within blanks whole ∙ sym (half_all old new (long_old ∙ sym long_new)) in
    record {
      stands = λ ok from above below place may stood.
          subst (λ l. Stood ok x from (above ++ l ∷ below)) line
          (erases.stands ok from above below half (place ∙ sym row)
          (takes.stands ok from (above ++ half ∷ below) (goes.stands ok from (above ++ half ∷ below) (so_far.stands ok from above below place may stood))));
      to_row = erases.to_row ∙ row;
      same = same;
      placed = erases.placed;
      short = omega (arith, so_far.short, goes.short, takes.short, erases.short, some, nothing_left old new (long_old ∙ sym long_new));
    }

-- ---- a line of some number

pub updates_none : (w : Writer) (row : ℕ) (old new : List Cell) → IsPlaced w → old ≡ new → Updates w w row old new 7
updates_none w row old new placed same = record {
  stands = λ ok from above below place may stood. subst (λ l. Stood ok w from (above ++ l ∷ below)) same stood;
  same = record { rows = refl; cols = refl; height = refl };
  placed = placed;
  short = omega arith;
}

pub updates_line : (w a v : Writer) (row : ℕ) (old new : List Cell) → length old ≡ length new → Moves w a row w.col w.pen (row - w.row + 6)
    → RowSoFar a v old new (length new) → Updates w v row old new 7
updates_line w a v row old new same_length goes drawn = record {
  stands = λ ok from above below place may stood.
      subst (λ l. Stood ok v from (above ++ l ∷ below)) (half_all old new same_length)
      (drawn.stands ok from above below (place ∙ sym goes.to_row) (λ at differ. ap (λ r. ok r at) goes.to_row ∙ may at differ)
      (goes.stands ok from (above ++ old ∷ below) stood));
  same = same_then w a v goes.same drawn.same;
  placed = drawn.placed;
  short = omega (arith, goes.short, drawn.short, goes.to_row, drawn.to_row, nothing_left old new same_length);
}

-- a line is redrawn before a column, and all is erased from there on
pub erases_from : (w a b c d x : Writer) (row col : ℕ) (old new : List Cell) → length old ≡ w.cols → length new ≡ w.cols → col < length new → IsBlankFrom col new → IsWhole new
    → Moves w a row w.col w.pen (row - w.row + 6) → RowSoFar a b old new col → Moves b c b.row col b.pen 7 → Moves c d c.row c.col plain 3 → ErasesBelow d x
    → ErasesFrom w x row col old new
erases_from w a b c d x row col old new long_old long_new within blanks whole goes drawn columns takes erases =
    let row_is : d.row ≡ row = takes.to_row ∙ columns.to_row ∙ drawn.to_row ∙ goes.to_row in
    let col_is : d.col ≡ col = takes.to_col ∙ columns.to_col in
    let same = same_then w a d goes.same (same_then a b d drawn.same (same_then b c d columns.same takes.same)) in
    let half = half_drawn old new col in
    let line : laid_at half d.col (blank_row (d.cols - d.col)) ≡ new =
    ap (λ k. laid_at half k (blank_row (d.cols - k))) col_is ∙ ap (λ n. laid_at half col (blank_row (n - col))) same.cols
    ∙ erased_is_new old new col w.cols long_old long_new within blanks whole in
    record {
      stands = λ ok from above below place may stood.
          subst (λ ls. Stood ok x from ls) (λ i. above ++ line i ∷ blank_rows (length below) (same.cols i))
          (erases.stands ok from above below half (place ∙ sym row_is)
          (takes.stands ok from (above ++ half ∷ below)
          (columns.stands ok from (above ++ half ∷ below)
          (drawn.stands ok from above below (place ∙ sym goes.to_row) (λ at differ. ap (λ r. ok r at) goes.to_row ∙ may at differ)
          (goes.stands ok from (above ++ old ∷ below) stood)))));
      to_row = erases.to_row ∙ row_is;
      same = same_then w d x same erases.same;
      placed = erases.placed;
      short = omega (arith, goes.short, drawn.short, columns.short, takes.short, erases.short);
    }

-- what a comparison of the rests says
pub rests_differ : (a b x y : List Cell) → a ≡ x → b ≡ y → true ≡ not (pointwise same_cell a b) → pointwise same_cell x y ≡ false
rests_differ a b x y e f h = ap (λ p. pointwise same_cell p y) (sym e) ∙ ap (λ q. pointwise same_cell a q) (sym f) ∙ not_false (pointwise same_cell a b) h

pub rests_same : (a b x y : List Cell) → a ≡ x → b ≡ y → false ≡ not (pointwise same_cell a b) → x ≡ y
rests_same a b x y e f h = sym e ∙ same_cells a b (not_true (pointwise same_cell a b) h) ∙ f

pub rest_none : (cells : List Cell) (n : ℕ) → length cells ≤ n → drop n cells ≡ []
rest_none [] zero h = refl
rest_none [] (suc n) h = refl
rest_none (c ∷ cs) zero h = absurd (omega arith)
rest_none (c ∷ cs) (suc n) h = rest_none cs n (omega arith)

pub rests_none : (old new : List Cell) (n : ℕ) → length old ≡ length new → length new ≤ n → drop n old ≡ drop n new
rests_none old new n same past = rest_none old n (omega arith) ∙ sym (rest_none new n past)
