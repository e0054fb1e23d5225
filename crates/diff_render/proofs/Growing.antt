-- A drawing that becomes higher: the lines that are there come first, then blank ones behind them, then what is on those.
use Prim.Native.Nat.{zero, suc}
use Rattle.std.proofs.Common.{◌≡◌, ℕ, ◌+◌, ◌-◌, ◌<◌, ◌≤◌, Bool, true, false, not, List, [], ◌∷◌, ◌++◌, length, take}
use Rattle.std.proofs.Common.{drop, max, nat_lt, if◌then◌else◌, refl, sym, ap, ◌∙◌, subst, arith, append-nil}
use Rattle.std.proofs.Common.{length-take-le, take-append-drop, ⊎_elim}
use Rattle.std.proofs.Math.Seq.{take-append_seam}
use Rattle.std.proofs.lemmas.Bool.{cases_lt, false≢true}
use Rattle.std.proofs.lemmas.Bool.Decides.{nat_tests}
use Rattle.std.proofs.lemmas.List.{get_or-take, get_or_past, take_all}
use Rattle.cell_grid.specs.declared.cell.Cell.{Cell}
use Rattle.cell_grid.specs.Attrs.{plain}
use Rattle.cell_grid.specs.Cell.{same_cell}
use Rattle.cell_grid.specs.Same.{same_cell-Decides}
use Rattle.cell_grid.specs.Row.{blank_row}
use Rattle.cell_grid.specs.Grid.{blank_rows, row_at}
use Rattle.diff_render.specs.declared.writer.Writer.{Writer}
use Rattle.diff_render.specs.Changes.{cell_at, is_changed, one_if_not, changed_in, changed_rows}
use Rattle.diff_render.specs.Writer.{IsPlaced, Moves, Stood}
use Rattle.diff_render.specs.Redrawn.{padded, line_at, MayTouchRows, GrowsTo, RowsSoFar, Redrawn}
use Rattle.diff_render.proofs.LineSteps.{length_padded, changed_padded}
use Rattle.diff_render.proofs.LineEnds.{all_drawn, few_taken}

-- ---- what changes

same_itself : (c : Cell) → same_cell c c ≡ true
same_itself c = (same_cell-Decides c c).1 refl

changed_self : (cells : List Cell) → changed_in cells cells ≡ 0
changed_self [] = refl
changed_self (c ∷ cs) = ap (λ b. one_if_not b + changed_in cs cs) (same_itself c) ∙ ap (λ n. 0 + n) (changed_self cs)

-- what changes in the rows that are there, and then behind them
changed_apart : (cols : ℕ) (old new : List (List Cell)) (height : ℕ) → length old ≡ height → height ≤ length new
    → changed_rows cols old (take height new) + changed_rows cols (take height new) new ≡ changed_rows cols old new
changed_apart cols [] new zero e few = omega arith
changed_apart cols [] new (suc height) e few = absurd (omega arith)
changed_apart cols (o ∷ os) new zero e few = absurd (omega arith)
changed_apart cols (o ∷ os) [] (suc height) e few = absurd (omega arith)
changed_apart cols (o ∷ os) (n ∷ ns) (suc height) e few = omega (arith, changed_apart cols os ns height (omega arith) (omega arith), changed_self n)

changed_behind : (cols : ℕ) (old new : List (List Cell)) (first : ℕ) → length old ≡ length new
    → changed_rows cols (drop first old) (drop first new) ≤ changed_rows cols old new
changed_behind cols old new zero e = omega arith
changed_behind cols [] [] (suc first) e = omega arith
changed_behind cols [] (n ∷ ns) (suc first) e = absurd (omega arith)
changed_behind cols (o ∷ os) [] (suc first) e = absurd (omega arith)
changed_behind cols (o ∷ os) (n ∷ ns) (suc first) e = omega (arith, changed_behind cols os ns first (omega arith))

-- no place of equal rows changes
not_changed : (old new : List (List Cell)) (row col : ℕ) → row_at old row ≡ row_at new row → is_changed old new row col ≡ false
not_changed old new row col e =
    ap (λ r. not (same_cell (cell_at r col) (cell_at (row_at new row) col))) e ∙ ap not (same_itself (cell_at (row_at new row) col))

may_there : (ok : ℕ → ℕ → Bool) (old new : List (List Cell)) (height : ℕ) → length old ≡ height → MayTouchRows ok old new → MayTouchRows ok old (take height new)
may_there ok old new height count may row col h = ⊎_elim
    (λ (inside : row < height). may row col (ap (λ r. not (same_cell (cell_at (row_at old row) col) (cell_at r col))) (sym (get_or-take height new row [] inside)) ∙ h))
    (λ (outside : height ≤ row).
    absurd (false≢true (sym (not_changed old (take height new) row col
    (get_or_past old row [] (omega arith) ∙ sym (get_or_past (take height new) row [] (omega (arith, few_taken height new))))) ∙ h)))
    (cases_lt row height)

may_behind : (ok : ℕ → ℕ → Bool) (old new : List (List Cell)) (height : ℕ) → length old ≡ height → MayTouchRows ok old new → MayTouchRows ok (take height new) new
may_behind ok old new height count may row col h = ⊎_elim
    (λ (inside : row < height). absurd (false≢true (sym (not_changed (take height new) new row col (get_or-take height new row [] inside)) ∙ h)))
    (λ (outside : height ≤ row).
    let both : row_at old row ≡ row_at (take height new) row =
    get_or_past old row [] (omega arith) ∙ sym (get_or_past (take height new) row [] (omega (arith, few_taken height new))) in
    may row col (ap (λ r. not (same_cell (cell_at r col) (cell_at (row_at new row) col))) both ∙ h))
    (cases_lt row height)

-- ---- lines without blank ones behind them

unpadded : (height cols : ℕ) (rows : List (List Cell)) → height ≤ length rows → padded height cols rows ≡ rows
unpadded height cols rows enough =
    let none : height - length rows ≡ 0 = omega arith in ap (λ n. rows ++ blank_rows n cols) none ∙ append-nil rows

pub rows_begun : (w : Writer) (new : List (List Cell)) (first : ℕ) → IsPlaced w → length new ≡ w.height → first ≤ w.row → RowsSoFar w w (take first new) new first first
rows_begun w new first placed count low =
    let height = w.height in
    let few : length (take first new) ≡ first = length-take-le first new (omega (arith, placed.on_line)) in
    let olds = padded height w.cols (take first new) in
    let news = padded height w.cols new in
    let fronts : take first news ≡ take first olds =
    ap (take first) (unpadded height w.cols new (omega arith))
    ∙ sym (ap (λ k. take k olds) (sym few) ∙ take-append_seam (take first new) (blank_rows (height - length (take first new)) w.cols)) in
    let lines : olds ≡ take first news ++ drop first olds = sym (ap (λ ls. ls ++ drop first olds) fronts ∙ take-append-drop first olds) in
    let same : length olds ≡ length news =
    length_padded height w.cols (take first new) (omega (arith, few, placed.on_line)) ∙ sym (length_padded height w.cols new (omega arith)) in
    record {
      stands = λ ok from may stood. subst (λ ls. Stood ok w from ls) lines stood;
      same = record { rows = refl; cols = refl; height = refl };
      placed = placed;
      short = omega (arith, changed_behind w.cols olds news first same);
    }

-- ---- all lines

pub redrawn_there : (w v : Writer) (old new : List (List Cell)) → w.height ≡ length old → length new ≤ w.height → RowsSoFar w v old (take w.height new) 0 w.height
    → Redrawn w v old new
redrawn_there w v old new count few so_far =
    let height = w.height in
    let drawn : RowsSoFar w v old new 0 height = subst (λ rows. RowsSoFar w v old rows 0 height) (take_all height new few) so_far in
    let few_old : length old ≤ height = omega arith in
    let olds = padded height w.cols old in
    let whole : take height (padded height w.cols new) ++ drop height olds ≡ padded v.height w.cols new =
    all_drawn height w.cols old new few_old few ∙ ap (λ n. padded n w.cols new) (sym drawn.same.height) in
    record {
      stands = λ ok from may stood.
          subst (λ ls. Stood ok v from ls) whole (drawn.stands ok from may (subst (λ ls. Stood ok w from ls) (sym (unpadded height w.cols old (omega arith))) stood));
      rows = drawn.same.rows;
      cols = drawn.same.cols;
      to_height = let e : height ≡ max (length old) (length new) = omega arith in drawn.same.height ∙ e;
      placed = drawn.placed;
      short = omega (arith, drawn.short, changed_padded w.cols height old new few_old few, drawn.same.height);
    }

pub redrawn_higher : (w v p g a x : Writer) (old new : List (List Cell)) (last : ℕ) → w.height ≡ length old → length old < length new → last + 1 ≡ length old
    → RowsSoFar w v old (take w.height new) 0 w.height → Moves v p v.row v.col plain 3
    → Moves p g last p.col p.pen (last - p.row + 6) → GrowsTo g a (length new)
    → RowsSoFar a x (take (length old) new) new (length old) a.height → Redrawn w x old new
redrawn_higher w v p g a x old new last count more ends so_far plains goes grows below =
    let height = w.height in
    let there = take height new in
    let few_old : length old ≤ height = omega arith in
    let few_there = few_taken height new in
    let exact : length there ≡ height = length-take-le height new (omega arith) in
    let to_height : g.height ≡ height = goes.same.height ∙ plains.same.height ∙ so_far.same.height in
    let to_cols : g.cols ≡ w.cols = goes.same.cols ∙ plains.same.cols ∙ so_far.same.cols in
    let a_height : a.height ≡ length new = grows.to_height in
    let a_cols : a.cols ≡ w.cols = grows.cols ∙ to_cols in
    let drawn : RowsSoFar a x there new height a.height = subst (λ n. RowsSoFar a x (take n new) new n a.height) (sym count) below in
    let few_new : length new ≤ a.height = omega (arith, a_height) in
    let few_under : length there ≤ a.height = omega (arith, exact, a_height) in
    let fronts : take height (padded height w.cols there) ++ drop height (padded height w.cols old) ≡ there =
    all_drawn height w.cols old there few_old few_there ∙ unpadded height w.cols there (omega (arith, exact)) in
    let left : length new - g.height ≡ a.height - length there = omega (arith, to_height, exact, a_height) in
    let grown : there ++ blank_rows (length new - g.height) g.cols ≡ padded a.height a.cols there =
    ap (λ n. there ++ blank_rows n g.cols) left ∙ ap (λ n. there ++ blank_rows (a.height - length there) n) (to_cols ∙ sym a_cols) in
    let whole : take a.height (padded a.height a.cols new) ++ drop a.height (padded a.height a.cols there) ≡ padded x.height w.cols new =
    all_drawn a.height a.cols there new few_under few_new ∙ ap (λ n. padded n a.cols new) (sym drawn.same.height) ∙ ap (λ n. padded x.height n new) a_cols in
    record {
      stands = λ ok from may stood.
          let first = so_far.stands ok from (may_there ok old new height (sym count) may)
          (subst (λ ls. Stood ok w from ls) (sym (unpadded height w.cols old (omega arith))) stood) in
          let second = grows.stands ok from there (goes.stands ok from there (plains.stands ok from there (subst (λ ls. Stood ok v from ls) fronts first))) in
          subst (λ ls. Stood ok x from ls) whole
          (drawn.stands ok from (may_behind ok old new height (sym count) may) (subst (λ ls. Stood ok a from ls) grown second));
      rows = drawn.same.rows ∙ grows.rows ∙ goes.same.rows ∙ plains.same.rows ∙ so_far.same.rows;
      cols = drawn.same.cols ∙ a_cols;
      to_height = let e : a.height ≡ max (length old) (length new) = omega (arith, a_height) in drawn.same.height ∙ e;
      placed = drawn.placed;
      short = omega (
        arith,
        so_far.short,
        plains.short,
        plains.to_row,
        goes.short,
        grows.short,
        to_height,
        drawn.short,
        a_height,
        drawn.same.height,
        changed_apart w.cols old new height (sym count) (omega arith),
        changed_padded w.cols height old there few_old few_there,
        changed_padded a.cols a.height there new few_under few_new,
        ap (λ n. changed_rows n there new) a_cols,
      );
    }

-- ---- the rows that are drawn on blank lines

pub line_behind : (cols first : ℕ) (rows : List (List Cell)) (at : ℕ) → first ≤ at → blank_row cols ≡ line_at cols (take first rows) at
line_behind cols first rows at low =
    let behind : length (take first rows) ≤ at = omega (arith, few_taken first rows) in
    let t : nat_lt at (length (take first rows)) ≡ false = grind (arith, nat_tests) in
    sym (ap (λ b. if b then row_at (take first rows) at else blank_row cols) t)

pub line_inside : (cols : ℕ) (rows : List (List Cell)) (at : ℕ) → at < length rows → row_at rows at ≡ line_at cols rows at
line_inside cols rows at inside =
    let t : nat_lt at (length rows) ≡ true = grind (arith, nat_tests) in sym (ap (λ b. if b then row_at rows at else blank_row cols) t)
