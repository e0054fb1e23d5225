-- Rows that are erased from a place on, cell by cell.
use Prim.Native.Nat.{zero, suc}
use Rattle.std.proofs.Common.{◌≡◌, ℕ, ◌+◌, ◌-◌, ◌≤◌, ◌<◌, inl, inr, Bool, true, false, List, [], ◌∷◌, ◌++◌, length, take, drop, replicate, refl, sym, ap, subst, ◌∙◌, arith, append_assoc, append-nil, add-zero, length-append, length-drop, length-take-le, length-set, take_all, set}
use Rattle.std.proofs.Math.Seq.{take-append_seam, get_or-append_seam}
use Rattle.std.proofs.lemmas.List.{length-replicate, drop-drop, drop_all, drop_more, replicate_more, drop_at, set_at, take-append-drop, take_more_set}
use Rattle.cell_grid.specs.declared.attrs.Attrs.{Attrs}
use Rattle.cell_grid.specs.declared.cell.Cell.{Cell}
use Rattle.cell_grid.specs.declared.cell.Cell.TheVariants.{Lead, Tail}
use Rattle.cell_grid.specs.Row.{IsWhole, IsWholeAfter, mend_end, mend_start, laid_at, put_at}
use Rattle.cell_grid.specs.Grid.{IsRow, AllRows, row_at}
use Rattle.cell_grid.proofs.RowLemmas.{length-mend_end, length-laid_at, whole-append, front-whole}
use Rattle.term_model.specs.Obeying.{wiped}
use Rattle.cell_grid.proofs.GridLemmas.{AllRows-at}
use Rattle.term_model.proofs.LineLemmas.{whole-wiped}

-- a whole row needs no mending
mend_end-after : (after : Bool) (row : List Cell) → IsWholeAfter after row → mend_end row ≡ row
mend_end-after after [] h = refl
mend_end-after true (Lead text width attrs ∷ rest) h = absurd h
mend_end-after false (Tail ∷ rest) h = absurd h
mend_end-after true (Tail ∷ []) h = refl
mend_end-after true (Tail ∷ next ∷ rest) h = ap (λ cells. Tail ∷ cells) (mend_end-after false (next ∷ rest) h)
mend_end-after false (Lead text width attrs ∷ []) h = elim h [ inl p ↦ rw p.0 refl | inr p ↦ absurd p.1 ]
mend_end-after false (Lead text width attrs ∷ next ∷ rest) h =
    ap (λ cells. Lead text width attrs ∷ cells)
    (elim h [ inl p ↦ mend_end-after false (next ∷ rest) p.1 | inr p ↦ mend_end-after true (next ∷ rest) p.1 ])

pub mend_end-whole : (row : List Cell) → IsWhole row → mend_end row ≡ row
mend_end-whole row h = mend_end-after false row h

-- the rest behind a first cell, mended before and after
mend_start-rest : (cells : List Cell) → mend_start (drop 1 (mend_start cells)) ≡ mend_start (drop 1 cells)
mend_start-rest [] = refl
mend_start-rest (Lead text width attrs ∷ rest) = refl
mend_start-rest (Tail ∷ rest) = refl

-- a row of which so many cells are erased
abbrev pub erased_so_far : List Cell → ℕ → ℕ → Attrs → List Cell
erased_so_far row at zero pen = row
erased_so_far row at (suc count) pen = laid_at row at (replicate (suc count) (wiped pen))

pub length-erased_so_far : (row : List Cell) (at count : ℕ) (pen : Attrs) → at + count ≤ length row → length (erased_so_far row at count pen) ≡ length row
length-erased_so_far row at zero pen fits = refl
length-erased_so_far row at (suc count) pen fits =
    length-laid_at row at (replicate (suc count) (wiped pen)) (omega (arith, length-replicate (suc count) (wiped pen)))

-- one more cell is erased
pub erased_so_far-more : (row : List Cell) (at count : ℕ) (pen : Attrs) → IsWhole row → at + count < length row
    → put_at (erased_so_far row at count pen) (at + count) (wiped pen) ≡ erased_so_far row at (suc count) pen
erased_so_far-more row at zero pen h within = rw (add-zero at) refl
erased_so_far-more row at (suc count) pen h within =
    let w = wiped pen in
    let n = at + suc count in
    let front = mend_end (take at row) ++ replicate (suc count) w in
    let back = mend_start (drop n row) in
    let long : length front ≡ n =
    omega (arith, length-append (mend_end (take at row)) (replicate (suc count) w), length-mend_end (take at row), length-take-le at row (omega arith), length-replicate (suc count) w) in
    let filled : length (replicate (suc count) w) ≡ suc count = length-replicate (suc count) w in
    let more : length (replicate (suc (suc count)) w) ≡ suc (suc count) = length-replicate (suc (suc count)) w in
    let so_far : erased_so_far row at (suc count) pen ≡ front ++ back = ap (λ (k : ℕ). front ++ mend_start (drop (at + k) row)) filled in
    let whole : IsWhole front = whole-append false (mend_end (take at row)) (replicate (suc count) w) (front-whole at row h) (whole-wiped (suc count) pen) in
    let kept : mend_end (take n (front ++ back)) ≡ front =
    ap mend_end (subst (λ (k : ℕ). take k (front ++ back) ≡ front) long (take-append_seam front back)) ∙ mend_end-whole front whole in
    let rest : mend_start (drop (n + 1) (front ++ back)) ≡ mend_start (drop (n + 1) row) =
    ap mend_start (sym (drop-drop 1 n (front ++ back)))
    ∙ ap (λ cells. mend_start (drop 1 cells)) (drop_at front back n long)
    ∙ mend_start-rest (drop n row)
    ∙ ap mend_start (drop-drop 1 n row) in
    let same : n + 1 ≡ at + suc (suc count) = omega arith in
    let next : suc count + 1 ≡ suc (suc count) = omega arith in
    let grown : replicate (suc count) w ++ w ∷ [] ≡ replicate (suc (suc count)) w =
    replicate_more (suc count) w ∙ ap (λ (k : ℕ). replicate k w) next in
    ap (λ cells. put_at cells n w) so_far
    ∙ ap (λ cells. cells ++ (w ∷ []) ++ mend_start (drop (n + 1) (front ++ back))) kept
    ∙ ap (λ cells. front ++ (w ∷ []) ++ cells) rest
    ∙ ap (λ cells. cells ++ mend_start (drop (n + 1) row)) (append_assoc (mend_end (take at row)) (replicate (suc count) w) (w ∷ []) ∙ ap (λ cells. mend_end (take at row) ++ cells) grown)
    ∙ ap (λ (k : ℕ). mend_end (take at row) ++ replicate (suc (suc count)) w ++ mend_start (drop k row)) (same ∙ ap (λ (k : ℕ). at + k) (sym more))

-- all cells up to the end are erased
pub erased_so_far-all : (row : List Cell) (at : ℕ) (pen : Attrs) → IsWhole row → at ≤ length row
    → erased_so_far row at (length row - at) pen ≡ laid_at row at (replicate (length row - at) (wiped pen))
erased_so_far-all row at pen h within = all_by (length row - at) refl
  where
    all_by : (count : ℕ) → length row - at ≡ count → erased_so_far row at count pen ≡ laid_at row at (replicate count (wiped pen))
    all_by zero e =
        let past : length row ≤ at = omega arith in
        sym (rw (add-zero at, drop_all at row past, take_all at row past, append-nil (mend_end row), append-nil (mend_end row)) (mend_end-whole row h))
    all_by (suc count) e = refl

-- ---- whole lines

-- a row that is erased from its start
pub laid_at-all : (row : List Cell) (pen : Attrs) → laid_at row 0 (replicate (length row - 0) (wiped pen)) ≡ replicate (length row) (wiped pen)
laid_at-all row pen =
    let count : length row - 0 ≡ length row = omega arith in
    let filled : 0 + length (replicate (length row) (wiped pen)) ≡ length row = omega (arith, length-replicate (length row) (wiped pen)) in
    let past : length row ≤ length row = omega arith in
    rw (count, filled, drop_all (length row) row past) (append-nil (replicate (length row) (wiped pen)))

-- lines of which so many are erased from one on
abbrev pub lines_erased : List (List Cell) → ℕ → ℕ → ℕ → Attrs → List (List Cell)
lines_erased lines from count cols pen = take from lines ++ replicate count (replicate cols (wiped pen)) ++ drop (from + count) lines

front_long : (lines : List (List Cell)) (from count cols : ℕ) (pen : Attrs) → from ≤ length lines
    → length (take from lines ++ replicate count (replicate cols (wiped pen))) ≡ from + count
front_long lines from count cols pen within =
    omega (arith, length-append (take from lines) (replicate count (replicate cols (wiped pen))), length-take-le from lines within, length-replicate count (replicate cols (wiped pen)))

pub length-lines_erased : (lines : List (List Cell)) (from count cols : ℕ) (pen : Attrs) → from + count ≤ length lines → length (lines_erased lines from count cols pen) ≡ length lines
length-lines_erased lines from count cols pen within =
    omega (arith, length-append (take from lines ++ replicate count (replicate cols (wiped pen))) (drop (from + count) lines), front_long lines from count cols pen (omega arith), length-drop (from + count) lines)

-- the next line is as it was
pub row_at-lines_erased : (lines : List (List Cell)) (from count cols : ℕ) (pen : Attrs) → from + count < length lines → row_at (lines_erased lines from count cols pen) (from + count) ≡ row_at lines (from + count)
row_at-lines_erased lines from count cols pen within =
    let front = take from lines ++ replicate count (replicate cols (wiped pen)) in
    let long = front_long lines from count cols pen (omega arith) in
    ap (λ rest. row_at (front ++ rest) (from + count)) (drop_more lines (from + count) [] within)
    ∙ subst (λ (n : ℕ). row_at (front ++ row_at lines (from + count) ∷ drop (from + count + 1) lines) n ≡ row_at lines (from + count)) long
    (get_or-append_seam front (row_at lines (from + count)) (drop (from + count + 1) lines) [])

pub lines_erased-more : (lines : List (List Cell)) (from count cols : ℕ) (pen : Attrs) → from + count < length lines
    → set (lines_erased lines from count cols pen) (from + count) (replicate cols (wiped pen)) ≡ lines_erased lines from (count + 1) cols pen
lines_erased-more lines from count cols pen within =
    let line = replicate cols (wiped pen) in
    let front = take from lines ++ replicate count line in
    let next : from + count + 1 ≡ from + (count + 1) = omega arith in
    ap (λ rest. set (front ++ rest) (from + count) line) (drop_more lines (from + count) [] within)
    ∙ set_at front (row_at lines (from + count)) (drop (from + count + 1) lines) line (from + count) (front_long lines from count cols pen (omega arith))
    ∙ sym (append_assoc front (line ∷ []) (drop (from + count + 1) lines))
    ∙ ap (λ rows. rows ++ drop (from + count + 1) lines) (append_assoc (take from lines) (replicate count line) (line ∷ []) ∙ ap (λ rows. take from lines ++ rows) (replicate_more count line))
    ∙ ap (λ (n : ℕ). take from lines ++ replicate (count + 1) line ++ drop n lines) next

pub lines_erased-none : (lines : List (List Cell)) (from cols : ℕ) (pen : Attrs) → lines_erased lines from 0 cols pen ≡ lines
lines_erased-none lines from cols pen =
    let none : from + 0 ≡ from = omega arith in
    rw (none, append-nil (take from lines)) (take-append-drop from lines)

pub lines_erased-all : (lines : List (List Cell)) (from cols : ℕ) (pen : Attrs) → from ≤ length lines
    → lines_erased lines from (length lines - from) cols pen ≡ take from lines ++ replicate (length lines - from) (replicate cols (wiped pen))
lines_erased-all lines from cols pen within =
    let all : from + (length lines - from) ≡ length lines = omega arith in
    let past : length lines ≤ length lines = omega arith in
    rw (all, drop_all (length lines) lines past) (append-nil (take from lines ++ replicate (length lines - from) (replicate cols (wiped pen))))

-- ---- a step of erasing lines

module _ (old now : List (List Cell)) (from line cols : ℕ) (pen : Attrs) (all : AllRows cols old) (started : from ≤ line) (within : line < length old)
    (so_far : now ≡ lines_erased old from (line - from) cols pen) where
  place : from + (line - from) ≡ line
  place = omega arith

  pub next_line : row_at now line ≡ row_at old line
  next_line =
      ap (λ rows. row_at rows line) so_far
      ∙ subst (λ (k : ℕ). row_at (lines_erased old from (line - from) cols pen) k ≡ row_at old k) place (row_at-lines_erased old from (line - from) cols pen (omega arith))

  pub next_row : IsRow cols (row_at now line)
  next_row = subst (IsRow cols) (sym next_line) (AllRows-at cols old line all within)

  pub line_erased : set now line (laid_at (row_at now line) 0 (replicate (length (row_at now line) - 0) (wiped pen))) ≡ lines_erased old from (line + 1 - from) cols pen
  line_erased =
      let next : line - from + 1 ≡ line + 1 - from = omega arith in
      ap (λ cells. set now line cells) (laid_at-all (row_at now line) pen ∙ ap (λ (k : ℕ). replicate k (wiped pen)) next_row.long)
      ∙ ap (λ rows. set rows line (replicate cols (wiped pen))) so_far
      ∙ subst (λ (k : ℕ). set (lines_erased old from (line - from) cols pen) k (replicate cols (wiped pen)) ≡ lines_erased old from (line - from + 1) cols pen) place
      (lines_erased-more old from (line - from) cols pen (omega arith))
      ∙ ap (λ (k : ℕ). lines_erased old from k cols pen) next

-- a line that is erased from a place on, and all lines behind it
pub page_erased : (lines : List (List Cell)) (line rows row : ℕ) (erased below : List Cell) → line < length lines → length lines - (line + 1) ≡ rows - (row + 1)
    → take (line + 1) (set lines line erased) ++ replicate (length (set lines line erased) - (line + 1)) below
    ≡ take line lines ++ erased ∷ replicate (rows - (row + 1)) below
page_erased lines line rows row erased below within same =
    ap (λ front. front ++ replicate (length (set lines line erased) - (line + 1)) below) (take_more_set lines line erased within)
    ∙ append_assoc (take line lines) (erased ∷ []) (replicate (length (set lines line erased) - (line + 1)) below)
    ∙ ap (λ (k : ℕ). take line lines ++ erased ∷ replicate k below) (ap (λ (k : ℕ). k - (line + 1)) (length-set lines line erased) ∙ same)
