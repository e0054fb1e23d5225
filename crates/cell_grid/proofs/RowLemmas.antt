-- Rows that are cut, joined and written stay whole and as long as they were.
use Prim.Native.Nat.{zero, suc}
use Rattle.std.proofs.Common.{◌≡◌, ℕ, ◌+◌, ◌≤◌, ◌⊎◌, inl, inr, Bool, true, false, List, [], ◌∷◌, ◌++◌, length, take, drop, replicate, refl, ap, arith, length-append, length-drop, length-take-le}
use Rattle.cell_grid.specs.declared.attrs.Attrs.{Attrs}
use Rattle.cell_grid.specs.declared.cell.Cell.{Cell}
use Rattle.cell_grid.specs.declared.cell.Cell.TheVariants.{Lead, Tail}
use Rattle.cell_grid.specs.Cell.{IsLead, narrow, spread}
use Rattle.cell_grid.specs.Row.{IsWholeAfter, IsWhole, mended, mend_end, mend_start, laid_at, put_at}

-- ---- lengths

pub length-mend_end : (cells : List Cell) → length (mend_end cells) ≡ length cells
length-mend_end [] = refl
length-mend_end (cell ∷ []) = refl
length-mend_end (cell ∷ next ∷ rest) = ap suc (length-mend_end (next ∷ rest))

pub length-mend_start : (cells : List Cell) → length (mend_start cells) ≡ length cells
length-mend_start [] = refl
length-mend_start (Lead text width attrs ∷ rest) = refl
length-mend_start (Tail ∷ rest) = refl

pub length-laid_at : (row : List Cell) (at : ℕ) (cells : List Cell) → at + length cells ≤ length row → length (laid_at row at cells) ≡ length row
length-laid_at row at cells fits =
    omega (
      arith,
      length-append (mend_end (take at row) ++ cells) (mend_start (drop (at + length cells) row)),
      length-append (mend_end (take at row)) cells,
      length-mend_end (take at row),
      length-mend_start (drop (at + length cells) row),
      length-take-le at row (omega arith),
      length-drop (at + length cells) row,
    )

-- ---- whole rows

pub whole-append : (after : Bool) (front back : List Cell) → IsWholeAfter after front → IsWhole back → IsWholeAfter after (front ++ back)
whole-append false [] back h k = k
whole-append true [] back h k = absurd h
whole-append false (Lead text width attrs ∷ rest) back h k =
    elim h [ inl p ↦ inl (p.0, whole-append false rest back p.1 k) | inr p ↦ inr (p.0, whole-append true rest back p.1 k) ]
whole-append true (Lead text width attrs ∷ rest) back h k = absurd h
whole-append false (Tail ∷ rest) back h k = absurd h
whole-append true (Tail ∷ rest) back h k = whole-append false rest back h k

-- behind a wide Lead the Tail stays as it is
whole-tail : (rest : List Cell) → IsWhole (mend_end rest) → IsWholeAfter true (mend_end (Tail ∷ rest))
whole-tail [] h = tt
whole-tail (next ∷ rest) h = h

-- a Lead alone at the end
whole-mended : (text : List ℕ) (width : ℕ) (attrs : Attrs) → (width ≡ 1) ⊎ (width ≡ 2) → IsWhole (mended (Lead text width attrs) ∷ [])
whole-mended text width attrs h =
    elim h [ inl e ↦ rw e (inl (refl, tt)) | inr e ↦ rw e (inl (refl, tt)) ]

-- the front of a whole row, mended where it is cut
pub front-whole : (at : ℕ) (row : List Cell) → IsWhole row → IsWhole (mend_end (take at row))
front-whole zero row h = tt
front-whole (suc at) [] h = tt
front-whole (suc at) (Tail ∷ rest) h = absurd h
front-whole (suc zero) (Lead text width attrs ∷ rest) h =
    whole-mended text width attrs (elim h [ inl p ↦ inl p.0 | inr p ↦ inr p.0 ])
front-whole (suc (suc at)) (Lead text width attrs ∷ []) h =
    whole-mended text width attrs (elim h [ inl p ↦ inl p.0 | inr p ↦ inr p.0 ])
front-whole (suc (suc at)) (Lead text width attrs ∷ Lead more wide others ∷ rest) h =
    elim h [ inl p ↦ inl (p.0, front-whole (suc at) (Lead more wide others ∷ rest) p.1) | inr p ↦ absurd p.1 ]
front-whole (suc (suc at)) (Lead text width attrs ∷ Tail ∷ rest) h =
    elim h [ inl p ↦ absurd p.1 | inr p ↦ inr (p.0, whole-tail (take at rest) (front-whole at rest p.1)) ]

-- the back of a whole row, mended where it is cut
pub back-whole : (at : ℕ) (row : List Cell) → IsWhole row → IsWhole (mend_start (drop at row))
back-whole zero [] h = tt
back-whole zero (Lead text width attrs ∷ rest) h = h
back-whole zero (Tail ∷ rest) h = absurd h
back-whole (suc at) [] h = tt
back-whole (suc at) (Tail ∷ rest) h = absurd h
back-whole (suc zero) (Lead text width attrs ∷ []) h = tt
back-whole (suc (suc at)) (Lead text width attrs ∷ []) h = tt
back-whole (suc at) (Lead text width attrs ∷ Lead more wide others ∷ rest) h =
    elim h [ inl p ↦ back-whole at (Lead more wide others ∷ rest) p.1 | inr p ↦ absurd p.1 ]
back-whole (suc zero) (Lead text width attrs ∷ Tail ∷ rest) h =
    elim h [ inl p ↦ absurd p.1 | inr p ↦ inl (refl, p.1) ]
back-whole (suc (suc at)) (Lead text width attrs ∷ Tail ∷ rest) h =
    elim h [ inl p ↦ absurd p.1 | inr p ↦ back-whole at rest p.1 ]

pub whole-laid_at : (row : List Cell) (at : ℕ) (cells : List Cell) → IsWhole row → IsWhole cells → IsWhole (laid_at row at cells)
whole-laid_at row at cells h k =
    whole-append false (mend_end (take at row) ++ cells) (mend_start (drop (at + length cells) row))
    (whole-append false (mend_end (take at row)) cells (front-whole at row h) k)
    (back-whole (at + length cells) row h)

pub whole-narrow : (cols c : ℕ) (attrs : Attrs) → IsWhole (replicate cols (narrow c attrs))
whole-narrow zero c attrs = tt
whole-narrow (suc cols) c attrs = inl (refl, whole-narrow cols c attrs)

pub whole-spread : (lead : Cell) → IsLead lead → IsWhole (spread lead)
whole-spread (Lead text width attrs) h = elim h [ inl e ↦ rw e (inl (refl, tt)) | inr e ↦ rw e (inr (refl, tt)) ]
whole-spread Tail h = absurd h

pub whole-put_at : (row : List Cell) (at : ℕ) (lead : Cell) → IsWhole row → IsLead lead → IsWhole (put_at row at lead)
whole-put_at row at lead h k = whole-laid_at row at (spread lead) h (whole-spread lead k)
