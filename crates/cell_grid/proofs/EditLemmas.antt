-- What the single writes into a row make of it.
use Prim.Native.Nat.{zero, suc}
use Rattle.std.proofs.Common.{◌≡◌, ℕ, true, false, List, [], ◌∷◌, length, get_or, set, refl, ap, sym, ◌∙◌, arith}
use Rattle.cell_grid.specs.declared.cell.Cell.{Cell}
use Rattle.cell_grid.specs.Cell.{blank, is_wide}
use Rattle.cell_grid.specs.Row.{mended, mend_end}

-- mending the end writes the last cell
mend_end-set : (cells : List Cell) (last : ℕ) (cell : Cell) → suc last ≡ length cells → cell ≡ get_or cells last cell → set cells last (mended cell) ≡ mend_end cells
mend_end-set [] last cell e f = absurd (omega arith)
mend_end-set (first ∷ []) zero cell e f = ap (λ c. mended c ∷ []) f
mend_end-set (first ∷ []) (suc last) cell e f = absurd (omega arith)
mend_end-set (first ∷ next ∷ rest) zero cell e f = absurd (omega arith)
mend_end-set (first ∷ next ∷ rest) (suc last) cell e f = ap (λ cells. first ∷ cells) (mend_end-set (next ∷ rest) last cell (omega arith) f)

pub mend_end-wide : (cells : List Cell) (last : ℕ) (cell : Cell) → suc last ≡ length cells → cell ≡ get_or cells last cell → true ≡ is_wide (get_or cells last cell) → set cells last blank ≡ mend_end cells
mend_end-wide cells last cell e f wide = rw (ap is_wide f ∙ sym wide) at (mend_end-set cells last cell e f)

pub mend_end-other : (cells : List Cell) (last : ℕ) (cell : Cell) → suc last ≡ length cells → cell ≡ get_or cells last cell → false ≡ is_wide (get_or cells last cell) → cells ≡ mend_end cells
mend_end-other [] last cell e f other = refl
mend_end-other (first ∷ []) zero cell e f other = rw (sym other) refl
mend_end-other (first ∷ []) (suc last) cell e f other = absurd (omega arith)
mend_end-other (first ∷ next ∷ rest) zero cell e f other = absurd (omega arith)
mend_end-other (first ∷ next ∷ rest) (suc last) cell e f other = ap (λ cells. first ∷ cells) (mend_end-other (next ∷ rest) last cell (omega arith) f other)

pub mend_end-empty : (cells : List Cell) → length cells ≡ 0 → cells ≡ mend_end cells
mend_end-empty [] e = refl
mend_end-empty (first ∷ rest) e = absurd (omega arith)
