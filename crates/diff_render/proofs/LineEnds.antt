-- The end of a drawing, where the new one is blank.
use Prim.Native.Nat.{zero, suc}
use Rattle.std.proofs.Common.{◌≡◌, ℕ, ◌+◌, ◌-◌, ◌<◌, ◌≤◌, ◌⊎◌, true, false, not, List, [], ◌∷◌, ◌++◌, length, take}
use Rattle.std.proofs.Common.{drop, min, nat_lt, inl, inr, refl, sym, ap, ◌∙◌, subst, arith, append-nil, length-drop}
use Rattle.std.proofs.Common.{length-take-le, take-append-drop, ⊎_elim, if◌then◌else◌}
use Rattle.std.proofs.lemmas.Bool.{cases_lt}
use Rattle.std.proofs.lemmas.Bool.Decides.{nat_tests}
use Rattle.std.proofs.lemmas.List.{length-replicate, length-take, get_or-drop, get_or-take}
use Rattle.cell_grid.specs.declared.cell.Cell.{Cell}
use Rattle.cell_grid.specs.Cell.{blank, same_cell}
use Rattle.cell_grid.specs.Row.{blank_row}
use Rattle.cell_grid.specs.Grid.{AllRows, blank_rows, columns, row_at}
use Rattle.diff_render.specs.declared.writer.Writer.{Writer}
use Rattle.diff_render.specs.Changes.{changed_in, changed_rows}
use Rattle.diff_render.specs.Redrawing.{ErasesFrom, MayTouch}
use Rattle.diff_render.specs.Writer.{Stood}
use Rattle.diff_render.specs.Redrawn.{padded, line_at, IsBlankBelow, IsDrawnRow, IsErasedBelow, RowsSoFar}
use Rattle.diff_render.proofs.CellSteps.{not_false, not_true}
use Rattle.diff_render.proofs.Moves.{same_then}
use Rattle.diff_render.proofs.RowEnds.{same_cells, differ_somewhere}
use Rattle.diff_render.proofs.LineSteps.{length_padded, padded_at, line_old, may_touch_line, all_taken, all_dropped}
use lib.Pointwise.{pointwise}

-- ---- rows that are blank

all_blank : (cols : ℕ) (rows : List (List Cell)) → ((k : ℕ) → k < length rows → row_at rows k ≡ blank_row cols) → rows ≡ blank_rows (length rows) cols
all_blank cols [] h = refl
all_blank cols (r ∷ rs) h = ap (λ x. x ∷ rs) (h 0 (omega arith)) ∙ ap (λ xs. blank_row cols ∷ xs) (all_blank cols rs (λ k within. h (suc k) (omega arith)))

blank_line : (cols : ℕ) (rows : List (List Cell)) (end at : ℕ) → columns rows ≡ cols → IsBlankBelow end rows → end ≤ at → line_at cols rows at ≡ blank_row cols
blank_line cols rows end at wide h behind = ⊎_elim
    (λ (inside : at < length rows).
    let t : nat_lt at (length rows) ≡ true = grind (arith, nat_tests) in
    ap (λ b. if b then row_at rows at else blank_row cols) t ∙ h at behind inside ∙ ap blank_row wide)
    (λ (outside : length rows ≤ at).
    let t : nat_lt at (length rows) ≡ false = grind (arith, nat_tests) in ap (λ b. if b then row_at rows at else blank_row cols) t)
    (cases_lt at (length rows))

-- the lines from there on
blank_behind : (height cols : ℕ) (rows : List (List Cell)) (end : ℕ) → columns rows ≡ cols → length rows ≤ height → IsBlankBelow end rows → end ≤ height
    → drop end (padded height cols rows) ≡ blank_rows (height - end) cols
blank_behind height cols rows end wide few h within =
    let all = padded height cols rows in
    let long : length (drop end all) ≡ height - end = omega (arith, length-drop end all, length_padded height cols rows few) in
    all_blank cols (drop end all)
    (λ k inside. get_or-drop end all k [] ∙ padded_at height cols rows (end + k) (omega (arith, long)) ∙ blank_line cols rows end (end + k) wide h (omega arith))
    ∙ ap (λ n. blank_rows n cols) long

-- ---- rows that are not

changed_somewhere : (cols : ℕ) (xs ys : List (List Cell)) (k : ℕ) → length xs ≡ length ys → k < length xs → length (row_at xs k) ≡ length (row_at ys k)
    → pointwise same_cell (row_at xs k) (row_at ys k) ≡ false → 1 ≤ changed_rows cols xs ys
changed_somewhere cols [] ys k e within long differ = absurd (omega arith)
changed_somewhere cols (x ∷ xs) [] k e within long differ = absurd (omega arith)
changed_somewhere cols (x ∷ xs) (y ∷ ys) zero e within long differ = omega (arith, differ_somewhere x y long differ)
changed_somewhere cols (x ∷ xs) (y ∷ ys) (suc k) e within long differ = omega (arith, changed_somewhere cols xs ys k (omega arith) (omega arith) long differ)

row_long : (cols : ℕ) (rows : List (List Cell)) (at : ℕ) → AllRows cols rows → at < length rows → length (row_at rows at) ≡ cols
row_long cols [] at h within = absurd (omega arith)
row_long cols (r ∷ rs) zero h within = h.0.long
row_long cols (r ∷ rs) (suc at) h within = row_long cols rs at h.1 (omega arith)

pub some_changed : (height cols : ℕ) (old new : List (List Cell)) (end at : ℕ) → AllRows cols old → columns old ≡ cols → columns new ≡ cols → length old ≤ height → length new ≤ height
    → IsBlankBelow end new → end ≤ at → at < length old → IsDrawnRow at old → 1 ≤ changed_rows cols (drop end (padded height cols old)) (drop end (padded height cols new))
some_changed height cols old new end at rows wide_old wide_new few_old few_new blanks behind within drawn =
    let olds = padded height cols old in
    let news = padded height cols new in
    let k = at - end in
    let there : end + k ≡ at = omega arith in
    let t : nat_lt at (length old) ≡ true = grind (arith, nat_tests) in
    let o : row_at (drop end olds) k ≡ row_at old at =
    get_or-drop end olds k [] ∙ ap (λ n. row_at olds n) there ∙ padded_at height cols old at (omega arith) ∙ ap (λ b. if b then row_at old at else blank_row cols) t in
    let n : row_at (drop end news) k ≡ blank_row cols =
    get_or-drop end news k [] ∙ ap (λ m. row_at news m) there ∙ padded_at height cols new at (omega arith) ∙ blank_line cols new end at wide_new blanks behind in
    let count_old : length (drop end olds) ≡ height - end = omega (arith, length-drop end olds, length_padded height cols old few_old) in
    let count_new : length (drop end news) ≡ height - end = omega (arith, length-drop end news, length_padded height cols new few_new) in
    changed_somewhere cols (drop end olds) (drop end news) k (count_old ∙ sym count_new) (omega (arith, count_old))
    (ap length o ∙ row_long cols old at rows within ∙ sym (ap length n ∙ length-replicate cols blank))
    (ap (λ r. pointwise same_cell r (row_at (drop end news) k)) o ∙ ap (λ r. pointwise same_cell (row_at old at) r) n
    ∙ ap (λ w. pointwise same_cell (row_at old at) (blank_row w)) (sym wide_old) ∙ drawn)

-- ---- all lines

pub all_drawn : (height cols : ℕ) (old new : List (List Cell)) → length old ≤ height → length new ≤ height → take height (padded height cols new) ++ drop height (padded height cols old) ≡ padded height cols new
all_drawn height cols old new few_old few_new =
    ap (λ ls. ls ++ drop height (padded height cols old)) (all_taken (padded height cols new) height (length_padded height cols new few_new))
    ∙ ap (λ ls. padded height cols new ++ ls) (all_dropped (padded height cols old) height (length_padded height cols old few_old)) ∙ append-nil (padded height cols new)

none_left : (height cols : ℕ) (old new : List (List Cell)) → length old ≤ height → length new ≤ height → changed_rows cols (drop height (padded height cols old)) (drop height (padded height cols new)) ≡ 0
none_left height cols old new few_old few_new =
    ap (λ r. changed_rows cols r (drop height (padded height cols new))) (all_dropped (padded height cols old) height (length_padded height cols old few_old))
    ∙ ap (λ r. changed_rows cols [] r) (all_dropped (padded height cols new) height (length_padded height cols new few_new))

-- what is left was blank
pub rows_same_end : (w v : Writer) (old new : List (List Cell)) (end old_end : ℕ) → columns old ≡ w.cols → columns new ≡ w.cols → length old ≤ w.height → length new ≤ w.height
    → end ≤ w.height → IsBlankBelow end new → IsBlankBelow old_end old → old_end ≤ end → RowsSoFar w v old new 0 end → RowsSoFar w v old new 0 w.height
rows_same_end w v old new end old_end wide_old wide_new few_old few_new within blanks old_blanks lower so_far =
    let height = w.height in
    let olds = padded height w.cols old in
    let news = padded height w.cols new in
    let same : drop end olds ≡ drop end news =
    blank_behind height w.cols old end wide_old few_old (λ k behind inside. old_blanks k (omega arith) inside) (omega arith)
    ∙ sym (blank_behind height w.cols new end wide_new few_new blanks (omega arith)) in
    let lines : take end news ++ drop end olds ≡ take height news ++ drop height olds =
    ap (λ ls. take end news ++ ls) same ∙ take-append-drop end news ∙ sym (all_drawn height w.cols old new few_old few_new) in
    record {
      stands = λ ok from may stood. subst (λ ls. Stood ok v from ls) lines (so_far.stands ok from may stood);
      same = so_far.same;
      placed = so_far.placed;
      short = omega (arith, so_far.short, none_left height w.cols old new few_old few_new);
    }

-- ---- the lines that are there

pub few_taken : (height : ℕ) (rows : List (List Cell)) → length (take height rows) ≤ height
few_taken height rows = omega (arith, length-take height rows)

pub columns_taken : (height : ℕ) (rows : List (List Cell)) → 0 < height → columns (take height rows) ≡ columns rows
columns_taken height rows some = ap length (get_or-take height rows 0 [] some)

pub line_taken : (cols height : ℕ) (rows : List (List Cell)) (at : ℕ) → at < height → line_at cols rows at ≡ line_at cols (take height rows) at
line_taken cols height rows at within = ⊎_elim
    (λ (inside : at < length rows).
    let t : nat_lt at (length rows) ≡ true = grind (arith, nat_tests) in
    let there : at < length (take height rows) = omega (arith, length-take height rows) in
    let u : nat_lt at (length (take height rows)) ≡ true = grind (arith, nat_tests) in
    ap (λ b. if b then row_at rows at else blank_row cols) t ∙ sym (get_or-take height rows at [] within)
    ∙ sym (ap (λ b. if b then row_at (take height rows) at else blank_row cols) u))
    (λ (outside : length rows ≤ at).
    let t : nat_lt at (length rows) ≡ false = grind (arith, nat_tests) in
    let behind : length (take height rows) ≤ at = omega (arith, length-take height rows) in
    let u : nat_lt at (length (take height rows)) ≡ false = grind (arith, nat_tests) in
    ap (λ b. if b then row_at rows at else blank_row cols) t ∙ sym (ap (λ b. if b then row_at (take height rows) at else blank_row cols) u))
    (cases_lt at (length rows))

pub blank_taken : (end height : ℕ) (rows : List (List Cell)) → 0 < height → IsBlankBelow end rows → IsBlankBelow (min end height) (take height rows)
blank_taken end height rows some blanks k low inside =
    let here : k < height = omega (arith, inside, length-take height rows) in
    let there : k < length rows = omega (arith, inside, length-take height rows) in
    get_or-take height rows k [] here ∙ blanks k (omega arith) there ∙ ap blank_row (sym (columns_taken height rows some))

-- a row from which on all are blank
pub blank_here : (cols height : ℕ) (rows : List (List Cell)) (end : ℕ) (cells : List Cell) → columns rows ≡ cols → end < height → IsBlankBelow end (take height rows)
    → cells ≡ line_at cols rows end → cells ≡ blank_row cols
blank_here cols height rows end cells wide within blanks is =
    is ∙ line_taken cols height rows end within
    ∙ blank_line cols (take height rows) end end (columns_taken height rows (omega arith) ∙ wide) blanks (omega arith)

-- all from a place on is erased, where something was
pub rows_erased : (w v x : Writer) (old new : List (List Cell)) (row col end : ℕ) (o n : List Cell) → length old ≤ w.height → columns new ≡ w.cols → row < w.height
    → IsBlankBelow end (take w.height new) → (row + 1 ≡ end) ⊎ ((row ≡ end) × (col ≡ 0)) → IsErasedBelow w.height w.cols end old (take w.height new)
    → o ≡ line_at w.cols old row → n ≡ line_at w.cols new row → RowsSoFar w v old (take w.height new) 0 row → ErasesFrom v x row col o n
    → RowsSoFar w x old (take w.height new) 0 w.height
rows_erased w v x old new row col end o n few_old wide within blanks place erased is_old is_new so_far erases =
    let height = w.height in
    let here = take height new in
    let few_new = few_taken height new in
    let wide_new : columns here ≡ w.cols = columns_taken height new (omega arith) ∙ wide in
    let olds = padded height w.cols old in
    let news = padded height w.cols here in
    let is_o : drop row olds ≡ o ∷ drop (row + 1) olds = line_old height w.cols old row few_old within ∙ ap (λ l. l ∷ drop (row + 1) olds) (sym is_old) in
    let taken : n ≡ line_at w.cols here row = is_new ∙ line_taken w.cols height new row within in
    let is_n : drop row news ≡ n ∷ drop (row + 1) news = line_old height w.cols here row few_new within ∙ ap (λ l. l ∷ drop (row + 1) news) (sym taken) in
    let below = drop (row + 1) olds in
    let left : height - (row + 1) ≡ length below = omega (arith, length-drop (row + 1) olds, length_padded height w.cols old few_old) in
    let behind : IsBlankBelow (row + 1) here = λ k low inside. blanks k (place_behind row col end k place low) inside in
    let changed : changed_rows w.cols (drop row olds) (drop row news) ≡ changed_in o n + changed_rows w.cols below (drop (row + 1) news) =
    ap (λ r. changed_rows w.cols r (drop row news)) is_o ∙ ap (λ r. changed_rows w.cols (o ∷ below) r) is_n in
    let some : 1 ≤ changed_in (drop col o) (drop col n) + changed_rows w.cols below (drop (row + 1) news) = elim place [
      | inl e ↦ omega (arith, subst (λ k. IsErasedBelow height w.cols k old here) (sym e) erased)
      | inr both ↦
          omega (arith, subst (λ k. IsErasedBelow height w.cols k old here) (sym both.0) erased, changed, ap (λ k. changed_in (drop k o) (drop k n)) both.1)
    ] in
    let after : take row news ++ n ∷ blank_rows (length below) v.cols ≡ take height news ++ drop height olds =
    ap (λ k. take row news ++ n ∷ blank_rows (length below) k) so_far.same.cols ∙ ap (λ k. take row news ++ n ∷ blank_rows k w.cols) (sym left)
    ∙ ap (λ ls. take row news ++ n ∷ ls) (sym (blank_behind height w.cols here (row + 1) wide_new few_new behind (omega arith)))
    ∙ ap (λ ls. take row news ++ ls) (sym is_n) ∙ take-append-drop row news ∙ sym (all_drawn height w.cols old here few_old few_new) in
    record {
      stands = λ ok from may stood.
          let before : Stood ok v from (take row news ++ o ∷ below) = subst (λ ls. Stood ok v from (take row news ++ ls)) is_o (so_far.stands ok from may stood) in
          let touch : MayTouch ok row o n = subst (λ l. MayTouch ok row l n) (sym is_old) (subst (λ l. MayTouch ok row (line_at w.cols old row) l) (sym taken)
          (may_touch_line ok w.cols old here row may)) in
          subst (λ ls. Stood ok x from ls) after
          (erases.stands ok from (take row news) below (length-take-le row news (omega (arith, length_padded height w.cols here few_new))) touch before);
      same = same_then w v x so_far.same erases.same;
      placed = erases.placed;
      short = omega (arith, so_far.short, erases.short, changed, some, none_left height w.cols old here few_old few_new, erases.to_row);
    }
  where
    place_behind : (row col end k : ℕ) → (row + 1 ≡ end) ⊎ ((row ≡ end) × (col ≡ 0)) → row + 1 ≤ k → end ≤ k
    place_behind row col end k place low = elim place [ inl e ↦ omega arith | inr both ↦ omega (arith, both.0) ]

-- ---- the search for the last row that is not blank

pub drawn_row : (rows : List (List Cell)) (row end : ℕ) (x b : List Cell) → end ≡ row + 1 → x ≡ row_at rows row → b ≡ blank_row (columns rows)
    → true ≡ not (pointwise same_cell x b) → IsDrawnRow (end - 1) rows
drawn_row rows row end x b is here blanks differ =
    let at : row ≡ end - 1 = omega arith in
    ap (λ k. pointwise same_cell (row_at rows k) (blank_row (columns rows))) (sym at) ∙ ap (λ r. pointwise same_cell r (blank_row (columns rows))) (sym here)
    ∙ ap (λ r. pointwise same_cell x r) (sym blanks) ∙ not_false (pointwise same_cell x b) differ

pub blanks_more : (rows : List (List Cell)) (row end new_end : ℕ) (x b : List Cell) → new_end ≡ end
    → ((k : ℕ) → end ≤ k → k < row → row_at rows k ≡ blank_row (columns rows)) → x ≡ row_at rows row → b ≡ blank_row (columns rows)
    → false ≡ not (pointwise same_cell x b) → (k : ℕ) → new_end ≤ k → k < row + 1 → row_at rows k ≡ blank_row (columns rows)
blanks_more rows row end new_end x b is so_far here blanks same k low high = ⊎_elim
    (λ (before : k < row). so_far k (omega arith) before)
    (λ (last : row ≤ k). let at : k ≡ row = omega arith in ap (λ n. row_at rows n) at ∙ sym here ∙ same_cells x b (not_true (pointwise same_cell x b) same) ∙ blanks)
    (cases_lt k row)
