-- Rows that are laid over those of a grid.
use Prim.Native.Nat.{zero, suc}
use Rattle.std.proofs.Common.{◌≡◌, ℕ, ◌+◌, ◌≤◌, ◌<◌, List, [], ◌∷◌, ◌++◌, length, set, take, drop, refl, ap, subst, ◌∙◌, arith, length-append, take-append-drop}
use Rattle.std.proofs.lemmas.List.{length-replicate}
use Rattle.cell_grid.specs.declared.cell.Cell.{Cell}
use Rattle.cell_grid.specs.Cell.{blank}
use Rattle.cell_grid.specs.Grid.{AllRows, blank_rows, blitted, laid_over, row_at}
use Rattle.cell_grid.specs.Row.{blank_row, laid_at}
use Rattle.win_view.proofs.Laid.{laid_at-all}

-- ---- there are as many rows as before

length-laid_over : (rows part : List (List Cell)) (col : ℕ) → length (laid_over rows part col) ≡ length rows
length-laid_over rows [] col = refl
length-laid_over [] (cells ∷ part) col = refl
length-laid_over (row ∷ rows) (cells ∷ part) col = ap suc (length-laid_over rows part col)

pub length-blitted : (rows part : List (List Cell)) (row col : ℕ) → length (blitted rows part row col) ≡ length rows
length-blitted rows part row col =
    omega (
      arith,
      length-append (take row rows) (laid_over (drop row rows) part col),
      length-laid_over (drop row rows) part col,
      length-append (take row rows) (drop row rows),
      ap length (take-append-drop row rows),
    )

-- ---- a part in pieces

-- its first row, and the others below it
pub blitted-first : (rows part : List (List Cell)) (cells : List Cell) (row next col : ℕ) → next ≡ row + 1 → row < length rows → blitted (set rows row (laid_at (row_at rows row) col cells)) part next col ≡ blitted rows (cells ∷ part) row col
blitted-first [] part cells row next col is within = absurd (omega arith)
blitted-first rows part cells row zero col is within = absurd (omega arith)
blitted-first (first ∷ rows) part cells zero (suc next) col is within =
    let none : next ≡ 0 = omega arith in
    ap (λ (n : ℕ). blitted (laid_at first col cells ∷ rows) part (suc n) col) none
blitted-first (first ∷ rows) part cells (suc row) (suc next) col is within =
    ap (λ (rest : List (List Cell)). first ∷ rest) (blitted-first rows part cells row next col (omega arith) (omega arith))

-- the rows above, and those below
pub blitted-behind : (rows above below : List (List Cell)) (row next col : ℕ) → next ≡ row + length above → next ≤ length rows → blitted (blitted rows above row col) below next col ≡ blitted rows (above ++ below) row col
blitted-behind rows [] below zero next col is within =
    let none : next ≡ 0 = omega arith in
    ap (λ (n : ℕ). blitted rows below n col) none
blitted-behind [] (cells ∷ above) below zero next col is within = absurd (omega arith)
blitted-behind (first ∷ rows) (cells ∷ above) below zero zero col is within = absurd (omega arith)
blitted-behind (first ∷ rows) (cells ∷ above) below zero (suc next) col is within =
    ap (λ (rest : List (List Cell)). laid_at first col cells ∷ rest) (blitted-behind rows above below zero next col (omega arith) (omega arith))
blitted-behind [] above below (suc row) next col is within = absurd (omega arith)
blitted-behind (first ∷ rows) above below (suc row) zero col is within = absurd (omega arith)
blitted-behind (first ∷ rows) above below (suc row) (suc next) col is within =
    ap (λ (rest : List (List Cell)). first ∷ rest) (blitted-behind rows above below row next col (omega arith) (omega arith))

-- ---- a part over a whole grid

laid_over-blanks : (cols : ℕ) (part : List (List Cell)) → AllRows cols part → laid_over (blank_rows (length part) cols) part 0 ≡ part
laid_over-blanks cols [] every = refl
laid_over-blanks cols (cells ∷ part) every =
    ap (λ (line : List Cell). line ∷ laid_over (blank_rows (length part) cols) part 0) (laid_at-all (blank_row cols) cells (omega (arith, length-replicate cols blank, every.0.long)))
    ∙ ap (λ (rest : List (List Cell)). cells ∷ rest) (laid_over-blanks cols part every.1)

pub blitted-blanks : (rows cols : ℕ) (part : List (List Cell)) → AllRows cols part → length part ≡ rows → blitted (blank_rows rows cols) part 0 0 ≡ part
blitted-blanks rows cols part every long = subst (λ (n : ℕ). blitted (blank_rows n cols) part 0 0 ≡ part) long (laid_over-blanks cols part every)
