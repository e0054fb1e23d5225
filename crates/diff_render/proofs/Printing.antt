-- What printing a cell and erasing do to a canvas.
use Rattle.std.proofs.Common.{◌≡◌, ℕ, ◌+◌, ◌-◌, ◌<◌, ◌≤◌, Bool, true, false, ◌&&◌, List, [], ◌∷◌, ◌++◌, length, take}
use Rattle.std.proofs.Common.{drop, replicate, nat_eq, nat_lt, nat_le, min, map, Option, Some, None, refl, sym, ap}
use Rattle.std.proofs.Common.{◌∙◌, subst, arith, append_assoc, append-nil, length-append, length-take-le, ⊎_elim, ◌⊎◌}
use Rattle.std.proofs.Common.{inl, inr, slice_set, if◌then◌else◌}
use Rattle.std.specs.List.{list_all, slice_get}
use Rattle.std.proofs.Math.Seq.{get_or-append_seam, set-append_seam, take-append_seam, drop-append_seam}
use Rattle.std.proofs.lemmas.Bool.{and_right}
use Rattle.std.proofs.lemmas.Bool.Decides.{nat_tests}
use Rattle.std.proofs.lemmas.List.{replicate-append-replicate, length-replicate}
use Rattle.cell_grid.specs.declared.cell.Cell.{Cell}
use Rattle.cell_grid.specs.declared.cell.Cell.TheVariants.{Lead, Tail}
use Rattle.cell_grid.specs.declared.attrs.Attrs.{Attrs}
use Rattle.cell_grid.specs.Attrs.{plain}
use Rattle.cell_grid.specs.Cell.{spread}
use Rattle.cell_grid.specs.Row.{blank_row, put_at, laid_at, mended, mend_end, mend_start}
use Rattle.cell_grid.specs.Grid.{blank_rows, put_in, row_at}
use Rattle.cell_grid.proofs.RowLemmas.{length-mend_end}
use Rattle.term_model.specs.Controls.{Print, EL, ED}
use Rattle.term_model.specs.Obeying.{act, acted, wrapped, wrapped_by, placed, placed_by, printed_by, width_of}
use Rattle.term_model.specs.Obeying.{joined_row, joined_cell, line_of}
use Rattle.term_model.specs.Term.{Term}
use Rattle.diff_render.specs.Canvas.{canvas_of, top_for, canvas, On, IsBase, lead_place, placed_at, printed_at}
use Rattle.diff_render.specs.Canvas.{touched, Touches, Does}
use Rattle.diff_render.proofs.Steps.{one, top_before}

-- ---- a line among lines

pub at_seam : (front : List (List Cell)) (line : List Cell) (rest : List (List Cell)) (n : ℕ) → length front ≡ n → row_at (front ++ line ∷ rest) n ≡ line
at_seam front line rest n e = ap (λ k. row_at (front ++ line ∷ rest) k) (sym e) ∙ get_or-append_seam front line rest []

pub set_seam : (front : List (List Cell)) (line new : List Cell) (rest : List (List Cell)) (n : ℕ) → length front ≡ n
    → slice_set (front ++ line ∷ rest) n new ≡ front ++ new ∷ rest
set_seam front line new rest n e = ap (λ k. slice_set (front ++ line ∷ rest) k new) (sym e) ∙ set-append_seam front line rest new

-- the lines of a terminal, cut at one line of its canvas
pub cut_at : (a above below b : List (List Cell)) (line : List Cell) → a ++ (above ++ line ∷ below) ++ b ≡ a ++ above ++ line ∷ (below ++ b)
cut_at a above below b line = ap (λ x. x ++ b) (sym (append_assoc a above (line ∷ below))) ∙ append_assoc (a ++ above) (line ∷ below) b

-- the terminal that shows a canvas of so many lines, one of which is given apart
pub within : Term → ℕ → ℕ → List (List Cell) → List Cell → List (List Cell) → ℕ → ℕ → Attrs → Bool → Option (ℕ × ℕ) → Term
within t base height above line below row col pen pending last = record {
  rows = t.rows;
  cols = t.cols;
  lines = take base t.lines ++ (above ++ line ∷ below) ++ blank_rows (top_for t base height + t.rows - base - height) t.cols;
  top = top_for t base height;
  row = base + row - top_for t base height;
  col = col;
  pen = pen;
  wraps = false;
  visible = true;
  pasting = true;
  pending = pending;
  last = last;
}

-- it shows a canvas, where that has so many lines
pub within_is : (t : Term) (base height : ℕ) (above below : List (List Cell)) (line : List Cell) (row col : ℕ) (pen : Attrs) (pending : Bool) (last : Option (ℕ × ℕ))
    → length (above ++ line ∷ below) ≡ height
    → within t base height above line below row col pen pending last ≡ canvas t base (canvas_of (above ++ line ∷ below) row col pen) pending last
unfolding within
within_is t base height above below line row col pen pending last e = subst
    (λ n. within t base n above line below row col pen pending last ≡ canvas t base (canvas_of (above ++ line ∷ below) row col pen) pending last) e refl

pub same_height : (above below : List (List Cell)) (old new : List Cell) → length (above ++ new ∷ below) ≡ length (above ++ old ∷ below)
same_height above below old new = length-append above (new ∷ below) ∙ sym (length-append above (old ∷ below))

-- ---- rows that are written twice

mended_twice : (cell : Cell) → mended (mended cell) ≡ mended cell
mended_twice (Lead text width attrs) = ⊎_elim
    (λ (e : nat_eq width 2 ≡ true). rw e refl)
    (λ (e : nat_eq width 2 ≡ false). rw (e, e) refl)
    (bool_cases (nat_eq width 2))
  where
    bool_cases : (b : Bool) → (b ≡ true) ⊎ (b ≡ false)
    bool_cases true = inl refl
    bool_cases false = inr refl
mended_twice Tail = refl

pub mend_end_twice : (cells : List Cell) → mend_end (mend_end cells) ≡ mend_end cells
mend_end_twice [] = refl
mend_end_twice (cell ∷ []) = ap (λ c. c ∷ []) (mended_twice cell)
mend_end_twice (cell ∷ next ∷ []) = ap (λ cs. cell ∷ cs) (mend_end_twice (next ∷ []))
mend_end_twice (cell ∷ next ∷ third ∷ rest) = ap (λ cs. cell ∷ cs) (mend_end_twice (next ∷ third ∷ rest))

pub mend_start_twice : (cells : List Cell) → mend_start (mend_start cells) ≡ mend_start cells
mend_start_twice [] = refl
mend_start_twice (Lead text width attrs ∷ rest) = refl
mend_start_twice (Tail ∷ rest) = refl

-- a row that was cut at a place and joined again
cut_row : (front middle back : List Cell) (n : ℕ) → length front ≡ n → take n (front ++ middle ++ back) ≡ front
cut_row front middle back n e =
    ap (λ x. take n x) (append_assoc front middle back) ∙ ap (λ k. take k (front ++ (middle ++ back))) (sym e) ∙ take-append_seam front (middle ++ back)

drop_row : (front middle back : List Cell) (n : ℕ) → length (front ++ middle) ≡ n → drop n (front ++ middle ++ back) ≡ back
drop_row front middle back n e = ap (λ k. drop k (front ++ middle ++ back)) (sym e) ∙ drop-append_seam (front ++ middle) back

-- cells that are laid over cells of the same length at the same place
pub laid_twice : (line : List Cell) (at : ℕ) (old new : List Cell) → length old ≡ length new → at + length old ≤ length line
    → laid_at (laid_at line at old) at new ≡ laid_at line at new
laid_twice line at old new same fits =
    let front = mend_end (take at line) in
    let back = mend_start (drop (at + length old) line) in
    let n : length front ≡ at = length-mend_end (take at line) ∙ length-take-le at line (omega arith) in
    let m : length (front ++ old) ≡ at + length new = omega (arith, length-append front old) in
    let starts : take at (laid_at line at old) ≡ front = cut_row front old back at n in
    let ends : drop (at + length new) (laid_at line at old) ≡ back = drop_row front old back (at + length new) m in
    ap (λ x. mend_end x ++ new ++ mend_start (drop (at + length new) (laid_at line at old))) starts
    ∙ ap (λ x. mend_end front ++ new ++ mend_start x) ends
    ∙ ap (λ x. x ++ new ++ mend_start back) (mend_end_twice (take at line))
    ∙ ap (λ x. front ++ new ++ x) (mend_start_twice (drop (at + length old) line))
    ∙ ap (λ k. front ++ new ++ mend_start (drop (at + k) line)) same

pub get_seam : (front : List Cell) (cell : Cell) (rest : List Cell) (n : ℕ) → length front ≡ n → slice_get (front ++ cell ∷ rest) n ≡ Some cell
get_seam front cell rest n e = ap (λ k. slice_get (front ++ cell ∷ rest) k) (sym e) ∙ here front cell rest
  where
    here : (front : List Cell) (cell : Cell) (rest : List Cell) → slice_get (front ++ cell ∷ rest) (length front) ≡ Some cell
    here [] cell rest = refl
    here (c ∷ cs) cell rest = here cs cell rest

-- the Lead that was put at a place stands there
pub put_there : (line : List Cell) (at : ℕ) (text : List ℕ) (width : ℕ) (attrs : Attrs) → at ≤ length line
    → slice_get (put_at line at (Lead text width attrs)) at ≡ Some (Lead text width attrs)
put_there line at text width attrs fits =
    let front = mend_end (take at line) in
    let tails = replicate (width - 1) Tail in
    let back = mend_start (drop (at + length (spread (Lead text width attrs))) line) in
    ap (λ x. slice_get x at) (append_assoc front (Lead text width attrs ∷ tails) back)
    ∙ get_seam front (Lead text width attrs) (tails ++ back) at (length-mend_end (take at line) ∙ length-take-le at line fits)

-- ---- printing

-- a printed character of one or two columns is placed
printed_as : (w : ℕ) (t : Term) (c : ℕ) → (w ≡ 1) ⊎ (w ≡ 2) → printed_by w t c ≡ placed (wrapped t) c w
printed_as w t c h = elim h [ inl e ↦ rw e refl | inr e ↦ rw e refl ]

-- autowrap is off, so no wrap is done
unwrapped : (t : Term) → t.wraps ≡ false → wrapped t ≡ t
unwrapped t e = ap (λ b. wrapped_by (t.pending && b) t) e ∙ ap (λ b. wrapped_by b t) (and_right t.pending false refl)

-- the first character of a cell puts the Lead
first_printed : (t : Term) (base rows cols height : ℕ) (above below : List (List Cell)) (line : List Cell) (row col : ℕ) (pen : Attrs) (pending : Bool) (last : Option (ℕ × ℕ)) (c w : ℕ)
    → IsBase t base rows cols → height ≤ rows → length above ≡ row → width_of c ≡ w → (w ≡ 1) ⊎ (w ≡ 2) → col + w ≤ cols
    → act (within t base height above line below row col pen pending last) (Print c)
    ≡ within t base height above (put_at line col (Lead (c ∷ []) w pen)) below row (min (col + w) (cols - 1)) pen (nat_le cols (col + w)) (Some (base + row, col))
unfolding within
first_printed t base rows cols height above below line row col pen pending last c w good few place width one_or_two fits =
    let x = within t base height above line below row col pen pending last in
    let top = top_for t base height in
    let before : top ≤ base = top_before t base rows cols height good few in
    let a = take base t.lines in
    let b = blank_rows (top + t.rows - base - height) t.cols in
    let here : top + (base + row - top) ≡ base + row = omega arith in
    let n : length (a ++ above) ≡ base + row = omega (arith, length-append a above, good.before) in
    let lead = Lead (c ∷ []) w pen in
    let lines_are : put_in x.lines (line_of x) col lead ≡ a ++ (above ++ put_at line col lead ∷ below) ++ b =
    ap (λ k. put_in x.lines k col lead) here
    ∙ ap (λ ls. put_in ls (base + row) col lead) (cut_at a above below b line)
    ∙ ap (λ l. slice_set (a ++ above ++ line ∷ (below ++ b)) (base + row) (put_at l col lead)) (at_seam (a ++ above) line (below ++ b) (base + row) n)
    ∙ set_seam (a ++ above) line (put_at line col lead) (below ++ b) (base + row) n
    ∙ sym (cut_at a above below b (put_at line col lead)) in
    let test : nat_le (col + w) t.cols ≡ true = let h : col + w ≤ t.cols = omega (arith, good.wide) in grind (arith, nat_tests) in
    ap (λ k. printed_by k x c) width ∙ printed_as w x c one_or_two ∙ ap (λ y. placed y c w) (unwrapped x refl)
    ∙ ap (λ v. placed_by v x c w) test
    ∙ (λ i. record x {
      lines = lines_are i;
      col = min (col + w) (good.wide i - 1);
      pending = nat_le (good.wide i) (col + w);
      last = Some (here i, col);
    })

-- each further character joins it
joined_once : (t : Term) (base rows cols height : ℕ) (above below : List (List Cell)) (line : List Cell) (row col after : ℕ) (pen : Attrs) (pending : Bool) (text : List ℕ) (w z : ℕ)
    → IsBase t base rows cols → height ≤ rows → length above ≡ row → width_of z ≡ 0 → col + length (spread (Lead text w pen)) ≤ length line → length text < 8
    → act (within t base height above (put_at line col (Lead text w pen)) below row after pen pending (Some (base + row, col))) (Print z)
    ≡ within t base height above (put_at line col (Lead (text ++ z ∷ []) w pen)) below row after pen pending (Some (base + row, col))
unfolding within
joined_once t base rows cols height above below line row col after pen pending text w z good few place width fits room =
    let old = put_at line col (Lead text w pen) in
    let x = within t base height above old below row after pen pending (Some (base + row, col)) in
    let a = take base t.lines in
    let b = blank_rows (top_for t base height + t.rows - base - height) t.cols in
    let n : length (a ++ above) ≡ base + row = omega (arith, length-append a above, good.before) in
    let test : nat_lt (length text) 8 ≡ true = grind (arith, nat_tests) in
    let new = put_at line col (Lead (text ++ z ∷ []) w pen) in
    let joins : joined_row old col z ≡ new =
    ap (λ o. joined_cell old col o z) (put_there line col text w pen (omega arith))
    ∙ ap (λ k. put_at old col (Lead (if k then text ++ z ∷ [] else text) w pen)) test
    ∙ laid_twice line col (spread (Lead text w pen)) (spread (Lead (text ++ z ∷ []) w pen)) refl fits in
    let lines_are : slice_set x.lines (base + row) (joined_row (row_at x.lines (base + row)) col z) ≡ a ++ (above ++ new ∷ below) ++ b =
    ap (λ ls. slice_set ls (base + row) (joined_row (row_at ls (base + row)) col z)) (cut_at a above below b old)
    ∙ ap (λ l. slice_set (a ++ above ++ old ∷ (below ++ b)) (base + row) (joined_row l col z)) (at_seam (a ++ above) old (below ++ b) (base + row) n)
    ∙ ap (λ l. slice_set (a ++ above ++ old ∷ (below ++ b)) (base + row) l) joins
    ∙ set_seam (a ++ above) old new (below ++ b) (base + row) n
    ∙ sym (cut_at a above below b new) in
    ap (λ k. printed_by k x z) width ∙ (λ i. record x { lines = lines_are i })

-- all of these characters have width 0
abbrev pub AllJoin : List ℕ → Type 0
AllJoin [] = Unit {0}
AllJoin (z ∷ zs) = (width_of z ≡ 0) × AllJoin zs

joined_all : (t : Term) (base rows cols height : ℕ) (above below : List (List Cell)) (line : List Cell) (row col after : ℕ) (pen : Attrs) (pending : Bool) (text : List ℕ) (w : ℕ) (zs : List ℕ)
    → IsBase t base rows cols → height ≤ rows → length above ≡ row → AllJoin zs → col + length (spread (Lead text w pen)) ≤ length line → length text + length zs ≤ 8
    → acted (within t base height above (put_at line col (Lead text w pen)) below row after pen pending (Some (base + row, col))) (map Print zs)
    ≡ within t base height above (put_at line col (Lead (text ++ zs) w pen)) below row after pen pending (Some (base + row, col))
joined_all t base rows cols height above below line row col after pen pending text w [] good few place h fits room =
    ap (λ x. within t base height above (put_at line col (Lead x w pen)) below row after pen pending (Some (base + row, col))) (sym (append-nil text))
joined_all t base rows cols height above below line row col after pen pending text w (z ∷ zs) good few place h fits room =
    ap (λ x. acted x (map Print zs)) (joined_once t base rows cols height above below line row col after pen pending text w z good few place h.0 fits (omega arith))
    ∙ joined_all t base rows cols height above below line row col after pen pending (text ++ z ∷ []) w zs good few place h.1 fits (omega (arith, length-append text (z ∷ [])))
    ∙ ap (λ x. within t base height above (put_at line col (Lead x w pen)) below row after pen pending (Some (base + row, col))) (append_assoc text (z ∷ []) zs)

-- the text of a cell prints the cell
pub does_print : (rows cols : ℕ) (above below : List (List Cell)) (line : List Cell) (row col : ℕ) (pen : Attrs) (c w : ℕ) (zs : List ℕ)
    → length above ≡ row → length (above ++ line ∷ below) ≤ rows → length line ≡ cols → width_of c ≡ w → (w ≡ 1) ⊎ (w ≡ 2) → col + w ≤ cols → AllJoin zs → 1 + length zs ≤ 8
    → Does rows cols (Print c ∷ map Print zs) (canvas_of (above ++ line ∷ below) row col pen)
    (canvas_of (above ++ put_at line col (Lead (c ∷ zs) w pen) ∷ below) row (min (col + w) (cols - 1)) pen)
does_print rows cols above below line row col pen c w zs place few long width one_or_two fits joins room t base good x on =
    let n = length (above ++ line ∷ below) in
    let new = put_at line col (Lead (c ∷ zs) w pen) in
    let after = min (col + w) (cols - 1) in
    let wide : length (spread (Lead (c ∷ []) w pen)) ≡ w =
    elim one_or_two [ inl e ↦ rw e refl | inr e ↦ rw e refl ] in
    record {
      pending = nat_le cols (col + w);
      last = Some (base + row, col);
      is = ap (λ y. acted y (Print c ∷ map Print zs)) (on.is ∙ sym (within_is t base n above below line row col pen on.pending on.last refl))
          ∙ ap (λ y. acted y (map Print zs)) (first_printed t base rows cols n above below line row col pen on.pending on.last c w good few place width one_or_two fits)
          ∙ joined_all t base rows cols n above below line row col after pen (nat_le cols (col + w)) (c ∷ []) w zs good few place joins (omega (arith, wide)) (omega arith)
          ∙ within_is t base n above below new row after pen (nat_le cols (col + w)) (Some (base + row, col)) (same_height above below line new);
    }

-- ---- erasing

pub does_erase : (rows cols : ℕ) (above below : List (List Cell)) (line : List Cell) (row col : ℕ)
    → length above ≡ row → length (above ++ line ∷ below) ≤ rows
    → Does rows cols (EL ∷ []) (canvas_of (above ++ line ∷ below) row col plain) (canvas_of (above ++ laid_at line col (blank_row (cols - col)) ∷ below) row col plain)
unfolding within
does_erase rows cols above below line row col place few t base good x on =
    let n = length (above ++ line ∷ below) in
    let from = within t base n above line below row col plain on.pending on.last in
    let top = top_for t base n in
    let before : top ≤ base = top_before t base rows cols n good few in
    let a = take base t.lines in
    let b = blank_rows (top + t.rows - base - n) t.cols in
    let here : top + (base + row - top) ≡ base + row = omega arith in
    let m : length (a ++ above) ≡ base + row = omega (arith, length-append a above, good.before) in
    let new = laid_at line col (blank_row (cols - col)) in
    let lines_are : slice_set from.lines (line_of from) (laid_at (row_at from.lines (line_of from)) col (blank_row (t.cols - col))) ≡ a ++ (above ++ new ∷ below) ++ b =
    ap (λ k. slice_set from.lines k (laid_at (row_at from.lines k) col (blank_row (t.cols - col)))) here
    ∙ ap (λ ls. slice_set ls (base + row) (laid_at (row_at ls (base + row)) col (blank_row (t.cols - col)))) (cut_at a above below b line)
    ∙ ap (λ l. slice_set (a ++ above ++ line ∷ (below ++ b)) (base + row) (laid_at l col (blank_row (t.cols - col)))) (at_seam (a ++ above) line (below ++ b) (base + row) m)
    ∙ ap (λ k. slice_set (a ++ above ++ line ∷ (below ++ b)) (base + row) (laid_at line col (blank_row (k - col)))) good.wide
    ∙ set_seam (a ++ above) line new (below ++ b) (base + row) m
    ∙ sym (cut_at a above below b new) in
    one t base (canvas_of (above ++ line ∷ below) row col plain) x EL false None (canvas_of (above ++ new ∷ below) row col plain) on
    ((λ i. record from { lines = lines_are i; pending = false; last = None })
    ∙ within_is t base n above below new row col plain false None (same_height above below line new))

pub does_erase_below : (rows cols : ℕ) (above below : List (List Cell)) (line : List Cell) (row col : ℕ)
    → length above ≡ row → length (above ++ line ∷ below) ≤ rows
    → Does rows cols (ED ∷ []) (canvas_of (above ++ line ∷ below) row col plain)
    (canvas_of (above ++ laid_at line col (blank_row (cols - col)) ∷ blank_rows (length below) cols) row col plain)
unfolding within
does_erase_below rows cols above below line row col place few t base good x on =
    let n = length (above ++ line ∷ below) in
    let from = within t base n above line below row col plain on.pending on.last in
    let top = top_for t base n in
    let before : top ≤ base = top_before t base rows cols n good few in
    let a = take base t.lines in
    let behind = top + t.rows - base - n in
    let b = blank_rows behind t.cols in
    let here : top + (base + row - top) ≡ base + row = omega arith in
    let m : length (a ++ above) ≡ base + row = omega (arith, length-append a above, good.before) in
    let new = laid_at line col (blank_row (cols - col)) in
    let blanks = blank_rows (length below) cols in
    let height : n ≡ row + (length below + 1) = omega (arith, length-append above (line ∷ below)) in
    let high : length (above ++ new ∷ blanks) ≡ n = omega (arith, height, length-append above (new ∷ blanks), length-replicate (length below) (blank_row cols)) in
    let count : t.rows - (base + row - top + 1) ≡ length below + behind = omega (arith, height, good.tall) in
    let lines_are : take (line_of from) from.lines ++ laid_at (row_at from.lines (line_of from)) col (blank_row (t.cols - col)) ∷ blank_rows (t.rows - (base + row - top + 1)) t.cols
    ≡ a ++ (above ++ new ∷ blanks) ++ b =
    ap (λ k. take k from.lines ++ laid_at (row_at from.lines k) col (blank_row (t.cols - col)) ∷ blank_rows (t.rows - (base + row - top + 1)) t.cols) here
    ∙ ap (λ ls. take (base + row) ls ++ laid_at (row_at ls (base + row)) col (blank_row (t.cols - col)) ∷ blank_rows (t.rows - (base + row - top + 1)) t.cols) (cut_at a above below b line)
    ∙ ap (λ l. take (base + row) (a ++ above ++ line ∷ (below ++ b)) ++ laid_at l col (blank_row (t.cols - col)) ∷ blank_rows (t.rows - (base + row - top + 1)) t.cols)
    (at_seam (a ++ above) line (below ++ b) (base + row) m)
    ∙ ap (λ l. l ++ laid_at line col (blank_row (t.cols - col)) ∷ blank_rows (t.rows - (base + row - top + 1)) t.cols)
    (ap (λ k. take k (a ++ above ++ line ∷ (below ++ b))) (sym m) ∙ take-append_seam (a ++ above) (line ∷ (below ++ b)))
    ∙ ap (λ k. a ++ above ++ laid_at line col (blank_row (t.cols - col)) ∷ blank_rows k t.cols) count
    ∙ ap (λ ls. a ++ above ++ laid_at line col (blank_row (t.cols - col)) ∷ ls) (sym (replicate-append-replicate (length below) behind (blank_row t.cols)))
    ∙ ap (λ k. a ++ above ++ laid_at line col (blank_row (k - col)) ∷ (blank_rows (length below) k ++ b)) good.wide
    ∙ sym (cut_at a above blanks b new) in
    one t base (canvas_of (above ++ line ∷ below) row col plain) x ED false None (canvas_of (above ++ new ∷ blanks) row col plain) on
    ((λ i. record from { lines = lines_are i; pending = false; last = None })
    ∙ within_is t base n above blanks new row col plain false None high)

-- ---- the places that printing touches

joins_touch : (base : ℕ) (zs : List ℕ) → AllJoin zs → (t : Term) → touched t base (map Print zs) ≡ []
joins_touch base [] h t = refl
joins_touch base (z ∷ zs) h t =
    ap (λ k. printed_at k t base ++ touched (act t (Print z)) base (map Print zs)) h.0 ∙ joins_touch base zs h.1 (act t (Print z))

printed_place : (w : ℕ) (t : Term) (base : ℕ) → (w ≡ 1) ⊎ (w ≡ 2) → printed_at w t base ≡ placed_at (wrapped t) w base
printed_place w t base h = elim h [ inl e ↦ rw e refl | inr e ↦ rw e refl ]

pub touches_print : (ok : ℕ → ℕ → Bool) (rows cols : ℕ) (lines : List (List Cell)) (row col : ℕ) (pen : Attrs) (c w : ℕ) (zs : List ℕ)
    → length lines ≤ rows → width_of c ≡ w → (w ≡ 1) ⊎ (w ≡ 2) → col + w ≤ cols → AllJoin zs → ok row col ≡ true
    → (t : Term) (base : ℕ) → IsBase t base rows cols → (x : Term) → On t base (canvas_of lines row col pen) x → Touches ok x base (Print c ∷ map Print zs)
touches_print ok rows cols lines row col pen c w zs few width one_or_two fits joins passes t base good x on =
    let at = canvas t base (canvas_of lines row col pen) on.pending on.last in
    let top = top_for t base (length lines) in
    let before : top ≤ base = top_before t base rows cols (length lines) good few in
    let here : top + (base + row - top) - base ≡ row = omega arith in
    let test : nat_le (col + w) t.cols ≡ true = let h : col + w ≤ t.cols = omega (arith, good.wide) in grind (arith, nat_tests) in
    let first : printed_at (width_of c) at base ≡ (row, col) ∷ [] =
    ap (λ k. printed_at k at base) width ∙ printed_place w at base one_or_two ∙ ap (λ y. placed_at y w base) (unwrapped at refl)
    ∙ ap (λ v. lead_place v at base) test ∙ ap (λ r. (r, col) ∷ []) here in
    let all : touched at base (Print c ∷ map Print zs) ≡ (row, col) ∷ [] =
    ap (λ ps. ps ++ touched (act at (Print c)) base (map Print zs)) first ∙ ap (λ ps. (row, col) ∷ ps) (joins_touch base zs joins (act at (Print c))) in
    ap (λ y. list_all (λ (place : ℕ × ℕ). ok place.0 place.1) (touched y base (Print c ∷ map Print zs))) on.is
    ∙ ap (λ ps. list_all (λ (place : ℕ × ℕ). ok place.0 place.1) ps) all ∙ rw passes refl
