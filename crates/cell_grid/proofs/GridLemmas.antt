-- The rows of a grid and its block of cells.
use Prim.Native.Nat.{zero, suc}
use Rattle.std.proofs.Common.{◌≡◌, ℕ, ◌+◌, ◌-◌, ◌*◌, ◌≤◌, ◌<◌, List, [], ◌∷◌, ◌++◌, length, take, drop, set, refl, sym, ap, ◌∙◌, subst, arith, append_assoc, length-append, length-drop, length-take-le}
use Rattle.std.proofs.Math.Nat.{mul-le-mul_left}
use Rattle.std.proofs.Math.Seq.{take-add, take-append_seam}
use Rattle.std.proofs.lemmas.List.{drop-drop, drop_at, get_or-append-add, set-append_right, length-replicate, replicate-append-replicate}
use Rattle.cell_grid.specs.declared.cell.Cell.{Cell}
use Rattle.cell_grid.specs.Attrs.{plain}
use Rattle.cell_grid.specs.Cell.{blank}
use Rattle.cell_grid.specs.Row.{IsWhole, blank_row, laid_at}
use Rattle.cell_grid.specs.Grid.{IsRow, AllRows, row_at, columns, blank_rows, laid_over, blitted}
use Rattle.cell_grid.specs.GridFields.{cut_in_rows, IsBlock}
use Rattle.cell_grid.proofs.RowLemmas.{length-laid_at, whole-laid_at, whole-narrow}

-- ---- rows of one length

pub AllRows-at : (cols : ℕ) (rows : List (List Cell)) (at : ℕ) → AllRows cols rows → at < length rows → IsRow cols (row_at rows at)
AllRows-at cols [] at all within = absurd (omega arith)
AllRows-at cols (row ∷ rows) zero all within = all.0
AllRows-at cols (row ∷ rows) (suc at) all within = AllRows-at cols rows at all.1 (omega arith)

pub AllRows-set : (cols : ℕ) (rows : List (List Cell)) (at : ℕ) (row : List Cell) → AllRows cols rows → IsRow cols row → AllRows cols (set rows at row)
AllRows-set cols [] at row all new = tt
AllRows-set cols (first ∷ rows) zero row all new = (new, all.1)
AllRows-set cols (first ∷ rows) (suc at) row all new = (all.0, AllRows-set cols rows at row all.1 new)

-- ---- the block cut into rows

pub length-cut_in_rows : (rows cols : ℕ) (cells : List Cell) → length (cut_in_rows rows cols cells) ≡ rows
length-cut_in_rows zero cols cells = refl
length-cut_in_rows (suc rows) cols cells = ap suc (length-cut_in_rows rows cols (drop cols cells))

-- a row starts behind those before it
row_from : (rows cols row start : ℕ) (cells : List Cell) → row < rows → start ≡ row * cols → row_at (cut_in_rows rows cols cells) row ≡ take cols (drop start cells)
row_from zero cols row start cells within e = absurd (omega arith)
row_from (suc rows) cols zero start cells within e = let none : start ≡ 0 = omega arith in rw none refl
row_from (suc rows) cols (suc row) start cells within e =
    let next : start ≡ cols + row * cols = omega arith in
    row_from rows cols row (row * cols) (drop cols cells) (omega arith) refl
    ∙ ap (take cols) (drop-drop (row * cols) cols cells ∙ ap (λ n. drop n cells) (sym next))

pub row_at-cut_in_rows : (rows cols row : ℕ) (cells : List Cell) → row < rows → row_at (cut_in_rows rows cols cells) row ≡ take cols (drop (row * cols) cells)
row_at-cut_in_rows rows cols row cells within = row_from rows cols row (row * cols) cells within refl

pub row_end : (rows cols row : ℕ) → row < rows → row * cols + cols ≤ rows * cols
row_end rows cols row within = omega (arith, mul-le-mul_left cols (let more : suc row ≤ rows = omega arith in more))

-- what the block says of the rows that it is seen as
pub record IsSeen (rows cols : ℕ) (cells : List Cell) (seen : List (List Cell)) : Type 0 where
  pub count : length seen ≡ rows
  pub width : columns seen ≡ cols
  pub every : AllRows cols seen
  pub at : (row : ℕ) → row < rows → row_at seen row ≡ take cols (drop (row * cols) cells)
  pub ends : (row : ℕ) → row < rows → row * cols + cols ≤ length cells

pub seen_as : (rows cols : ℕ) (cells : List Cell) → IsBlock rows cols cells → IsSeen rows cols cells (cut_in_rows rows cols cells)
seen_as rows cols cells h = record {
  count = length-cut_in_rows rows cols cells;
  width = (AllRows-at cols (cut_in_rows rows cols cells) 0 h.whole (omega (arith, length-cut_in_rows rows cols cells, h.some_rows))).long;
  every = h.whole;
  at = λ row within. row_at-cut_in_rows rows cols row cells within;
  ends = λ row within. omega (arith, row_end rows cols row within, h.size);
}

pub seen_of : (rows cols : ℕ) (cells : List Cell) (seen : List (List Cell)) → IsBlock rows cols cells → cut_in_rows rows cols cells ≡ seen → IsSeen rows cols cells seen
seen_of rows cols cells seen h e = subst (IsSeen rows cols cells) e (seen_as rows cols cells h)

-- ---- a row that is written

cut-append : (rows cols : ℕ) (first rest : List Cell) → length first ≡ cols → cut_in_rows (suc rows) cols (first ++ rest) ≡ first ∷ cut_in_rows rows cols rest
cut-append rows cols first rest long =
    let taken : take cols (first ++ rest) ≡ first = subst (λ (n : ℕ). take n (first ++ rest) ≡ first) long (take-append_seam first rest) in
    rw (taken, drop_at first rest cols long) refl

-- the block with a line in place of its cells from a place on
abbrev pub with_line : ℕ → ℕ → List Cell → List Cell → List Cell
with_line cols start cells line = take start cells ++ (line ++ drop cols (drop start cells))

set_from : (rows cols row start : ℕ) (cells line : List Cell) → row < rows → length cells ≡ rows * cols → length line ≡ cols → start ≡ row * cols → cut_in_rows rows cols (with_line cols start cells line) ≡ set (cut_in_rows rows cols cells) row line
set_from zero cols row start cells line within size long e = absurd (omega arith)
set_from (suc rows) cols zero start cells line within size long e =
    let none : start ≡ 0 = omega arith in
    rw none (cut-append rows cols line (drop cols cells) long)
set_from (suc rows) cols (suc row) start cells line within size long e =
    let next : start ≡ cols + row * cols = omega arith in
    let first = take cols cells in
    let rest = drop cols cells in
    let full : length first ≡ cols = length-take-le cols cells (omega arith) in
    let parted : with_line cols start cells line ≡ first ++ with_line cols (row * cols) rest line =
    rw (next, take-add cols (row * cols) cells, sym (drop-drop (row * cols) cols cells)) (append_assoc first (take (row * cols) rest) (line ++ drop cols (drop (row * cols) rest)))
    in
    ap (cut_in_rows (suc rows) cols) parted ∙ cut-append rows cols first (with_line cols (row * cols) rest line) full
    ∙ ap (λ rows. first ∷ rows) (set_from rows cols row (row * cols) rest line (omega arith) (omega (arith, length-drop cols cells)) long refl)

pub cut_in_rows-with_line : (rows cols row : ℕ) (cells line : List Cell) → row < rows → length cells ≡ rows * cols → length line ≡ cols → cut_in_rows rows cols (with_line cols (row * cols) cells line) ≡ set (cut_in_rows rows cols cells) row line
cut_in_rows-with_line rows cols row cells line within size long = set_from rows cols row (row * cols) cells line within size long refl

length-with_line : (cols start : ℕ) (cells line : List Cell) → start + cols ≤ length cells → length line ≡ cols → length (with_line cols start cells line) ≡ length cells
length-with_line cols start cells line within long =
    omega (
      arith,
      length-append (take start cells) (line ++ drop cols (drop start cells)),
      length-append line (drop cols (drop start cells)),
      length-take-le start cells (omega arith),
      length-drop cols (drop start cells),
      length-drop start cells,
    )

-- a block in which a row is replaced by another whole one
pub block-with_line : (rows cols row : ℕ) (cells line : List Cell) → IsBlock rows cols cells → row < rows → IsRow cols line → IsBlock rows cols (with_line cols (row * cols) cells line)
block-with_line rows cols row cells line h within new = record {
  some_rows = h.some_rows;
  few_rows = h.few_rows;
  some_cols = h.some_cols;
  few_cols = h.few_cols;
  size = length-with_line cols (row * cols) cells line (omega (arith, row_end rows cols row within, h.size)) new.long ∙ h.size;
  whole = subst (AllRows cols) (sym (cut_in_rows-with_line rows cols row cells line within h.size new.long))
      (AllRows-set cols (cut_in_rows rows cols cells) row line h.whole new);
}

-- what laying whole cells over a row of the block makes of the rows
pub record IsLaid (rows cols row col : ℕ) (seen : List (List Cell)) (part new : List Cell) : Type 0 where
  pub block : IsBlock rows cols new
  pub laid : cut_in_rows rows cols new ≡ set seen row (laid_at (row_at seen row) col part)

pub laid_in : (rows cols row col : ℕ) (cells part : List Cell) → IsBlock rows cols cells → row < rows → col + length part ≤ cols → IsWhole part → IsLaid rows cols row col (cut_in_rows rows cols cells) part (with_line cols (row * cols) cells (laid_at (take cols (drop (row * cols) cells)) col part))
laid_in rows cols row col cells part h within fits whole =
    let seen = cut_in_rows rows cols cells in
    let line = take cols (drop (row * cols) cells) in
    let is : row_at seen row ≡ line = row_at-cut_in_rows rows cols row cells within in
    let old : IsRow cols line = subst (IsRow cols) is (AllRows-at cols seen row h.whole (omega (arith, length-cut_in_rows rows cols cells))) in
    let new : IsRow cols (laid_at line col part) =
    record { long = length-laid_at line col part (omega (arith, old.long)) ∙ old.long; whole = whole-laid_at line col part old.whole whole }
    in
    record {
      block = block-with_line rows cols row cells (laid_at line col part) h within new;
      laid = cut_in_rows-with_line rows cols row cells (laid_at line col part) within h.size new.long
          ∙ ap (λ row_cells. set seen row (laid_at row_cells col part)) (sym is);
    }

-- ---- blanks

pub row-blank_row : (cols : ℕ) → IsRow cols (blank_row cols)
row-blank_row cols = record { long = length-replicate cols blank; whole = whole-narrow cols 32 plain }

pub AllRows-blank_rows : (rows cols : ℕ) → AllRows cols (blank_rows rows cols)
AllRows-blank_rows zero cols = tt
AllRows-blank_rows (suc rows) cols = (row-blank_row cols, AllRows-blank_rows rows cols)

cut_from : (rows cols count : ℕ) → count ≡ rows * cols → cut_in_rows rows cols (blank_row count) ≡ blank_rows rows cols
cut_from zero cols count e = refl
cut_from (suc rows) cols count e =
    let next : count ≡ cols + rows * cols = omega arith in
    let parted : blank_row count ≡ blank_row cols ++ blank_row (rows * cols) = rw next (sym (replicate-append-replicate cols (rows * cols) blank)) in
    ap (cut_in_rows (suc rows) cols) parted ∙ cut-append rows cols (blank_row cols) (blank_row (rows * cols)) (length-replicate cols blank)
    ∙ ap (λ rows. blank_row cols ∷ rows) (cut_from rows cols (rows * cols) refl)

pub cut_in_rows-blank_row : (rows cols : ℕ) → cut_in_rows rows cols (blank_row (rows * cols)) ≡ blank_rows rows cols
cut_in_rows-blank_row rows cols = cut_from rows cols (rows * cols) refl

pub block-blank_row : (rows cols : ℕ) → 1 ≤ rows → rows ≤ 1000 → 1 ≤ cols → cols ≤ 1000 → IsBlock rows cols (blank_row (rows * cols))
block-blank_row rows cols some_rows few_rows some_cols few_cols = record {
  some_rows = some_rows;
  few_rows = few_rows;
  some_cols = some_cols;
  few_cols = few_cols;
  size = length-replicate (rows * cols) blank;
  whole = subst (AllRows cols) (sym (cut_in_rows-blank_row rows cols)) (AllRows-blank_rows rows cols);
}

-- ---- a part laid over the rows, line by line

get_or-laid_over : (rows part : List (List Cell)) (col at : ℕ) → row_at (laid_over rows (take at part) col) at ≡ row_at rows at
get_or-laid_over rows [] col zero = refl
get_or-laid_over rows [] col (suc at) = refl
get_or-laid_over rows (cells ∷ part) col zero = refl
get_or-laid_over [] (cells ∷ part) col (suc at) = refl
get_or-laid_over (row ∷ rows) (cells ∷ part) col (suc at) = get_or-laid_over rows part col at

set-laid_over : (rows part : List (List Cell)) (col at : ℕ) → at < length part → set (laid_over rows (take at part) col) at (laid_at (row_at rows at) col (row_at part at)) ≡ laid_over rows (take (suc at) part) col
set-laid_over rows [] col at within = absurd (omega arith)
set-laid_over [] (cells ∷ part) col zero within = refl
set-laid_over (row ∷ rows) (cells ∷ part) col zero within = refl
set-laid_over [] (cells ∷ part) col (suc at) within = refl
set-laid_over (row ∷ rows) (cells ∷ part) col (suc at) within = ap (λ rest. laid_at row col cells ∷ rest) (set-laid_over rows part col at (omega arith))

-- one line more of the part
pub blitted_more : (rows part : List (List Cell)) (row col at : ℕ) → row ≤ length rows → at < length part → set (blitted rows (take at part) row col) (row + at) (laid_at (row_at (blitted rows (take at part) row col) (row + at)) col (row_at part at)) ≡ blitted rows (take (suc at) part) row col
blitted_more rows part row col at some within =
    let above = take row rows in
    let long : length above ≡ row = length-take-le row rows some in
    let below = drop row rows in
    let covered = laid_over below (take at part) col in
    let line = laid_at (row_at below at) col (row_at part at) in
    let read : row_at (above ++ covered) (row + at) ≡ row_at below at =
    subst (λ (n : ℕ). row_at (above ++ covered) (n + at) ≡ row_at covered at) long (get_or-append-add above covered at [])
    ∙ get_or-laid_over below part col at
    in
    let place : row + at - row ≡ at = omega arith in
    ap (λ old. set (above ++ covered) (row + at) (laid_at old col (row_at part at))) read
    ∙ set-append_right above covered row (row + at) line long (omega arith)
    ∙ ap (λ n. above ++ set covered n line) place
    ∙ ap (λ rest. above ++ rest) (set-laid_over below part col at within)
