-- Drawings that are compared, and kept row by row.
use Prim.Native.Nat.{suc}
use Rattle.std.proofs.Common.{◌≡◌, ℕ, ◌+◌, ◌<◌, true, false, not, List, [], ◌∷◌, ◌++◌, length, take}
use Rattle.std.proofs.Common.{sym, ap, ◌∙◌, arith, slice_set}
use Rattle.std.proofs.Math.Seq.{take-suc, take-length}
use Rattle.std.proofs.lemmas.List.{set-get_or, take_more, take_more_set}
use Rattle.cell_grid.specs.declared.cell.Cell.{Cell}
use Rattle.std.proofs.lemmas.Bool.{false≢true}
use Rattle.cell_grid.specs.Cell.{same_cell}
use Rattle.cell_grid.specs.Same.{same_cell-Decides}
use lib.Pointwise.{pointwise, pointwise_decides}
use Rattle.cell_grid.specs.Grid.{row_at}
use Rattle.diff_render.proofs.RowEnds.{same_cells}
use Rattle.diff_render.proofs.CellSteps.{not_false, not_true}

-- ---- rows that are kept

-- a row that is the same stays
pub row_stays : (old : List (List Cell)) (cells : List Cell) (row : ℕ) → row_at old row ≡ cells → old ≡ slice_set old row cells
row_stays old cells row same = sym (ap (λ r. slice_set old row r) (sym same) ∙ set-get_or old row [])

-- one row more is kept
pub rows_kept : (kept new grid : List (List Cell)) (row : ℕ) → row < length kept → row < length grid → take row kept ≡ take row grid
    → new ≡ slice_set kept row (row_at grid row) → take (row + 1) new ≡ take (row + 1) grid
rows_kept kept new grid row in_kept in_grid so_far is =
    ap (take (row + 1)) is ∙ take_more_set kept row (row_at grid row) in_kept ∙ ap (λ rs. rs ++ row_at grid row ∷ []) so_far
    ∙ sym (take_more grid row [] in_grid)

-- ---- comparisons

-- one row more is the same
pub same_more : (a b : List (List Cell)) (at : ℕ) → at < length a → at < length b → take at a ≡ take at b → row_at a at ≡ row_at b at → take (at + 1) a ≡ take (at + 1) b
same_more a b at in_a in_b so_far here =
    let next : at + 1 ≡ suc at = omega arith in
    ap (λ k. take k a) next ∙ take-suc a at [] in_a ∙ ap (λ rs. rs ++ row_at a at ∷ []) so_far ∙ ap (λ r. take at b ++ r ∷ []) here
    ∙ sym (take-suc b at [] in_b) ∙ ap (λ k. take k b) (sym next)

pub same_all : (a b : List (List Cell)) (n : ℕ) → n ≡ length a → n ≡ length b → take n a ≡ take n b → a ≡ b
same_all a b n e f same = sym (take-length a) ∙ ap (λ k. take k a) (sym e) ∙ same ∙ ap (λ k. take k b) f ∙ take-length b

-- what a comparison of two rows says
pub rows_differ : (a b : List (List Cell)) (at : ℕ) (x y : List Cell) → x ≡ row_at a at → y ≡ row_at b at → true ≡ not (pointwise same_cell x y) → a ≡ b → ⊥
rows_differ a b at x y e f differ same =
    let equal : pointwise same_cell x y ≡ true = (pointwise_decides same_cell-Decides x y).1 (e ∙ ap (λ rs. row_at rs at) same ∙ sym f) in
    false≢true (sym (not_false (pointwise same_cell x y) differ) ∙ equal)

pub rows_same : (a b : List (List Cell)) (at : ℕ) (x y : List Cell) → x ≡ row_at a at → y ≡ row_at b at → false ≡ not (pointwise same_cell x y) → row_at a at ≡ row_at b at
rows_same a b at x y e f same = sym e ∙ same_cells x y (not_true (pointwise same_cell x y) same) ∙ f
