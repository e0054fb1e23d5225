-- Lines of one length, and the lead that stands at a place of them.
use Prim.Native.Nat.{zero, suc}
use Rattle.std.proofs.Common.{◌≡◌, ℕ, ◌+◌, ◌-◌, ◌≤◌, ◌<◌, ◌⊎◌, inl, inr, Bool, true, false, List, [], ◌∷◌, ◌++◌, Some, length, take, drop, set, map, replicate, refl, ap, subst, ◌∙◌, arith, append_assoc, length-append, length-take-le}
use Rattle.std.specs.Prelude.{slice_get}
use Rattle.std.proofs.lemmas.List.{length-replicate, length-take, get_or-set_same}
use Rattle.cell_grid.specs.declared.attrs.Attrs.{Attrs}
use Rattle.cell_grid.specs.declared.cell.Cell.{Cell}
use Rattle.cell_grid.specs.declared.cell.Cell.TheVariants.{Lead, Tail}
use Rattle.cell_grid.specs.Attrs.{plain}
use Rattle.cell_grid.specs.Cell.{spread}
use Rattle.cell_grid.specs.Row.{IsWhole, IsWholeAfter, mend_end, mend_start, blank_row, laid_at, put_at}
use Rattle.cell_grid.specs.Grid.{IsRow, AllRows, row_at}
use Rattle.cell_grid.proofs.RowLemmas.{length-mend_end, length-laid_at, whole-laid_at, whole-append, whole-narrow, front-whole}
use Rattle.cell_grid.proofs.GridLemmas.{row-blank_row}
use Rattle.term_model.specs.Obeying.{wiped}
use Rattle.term_model.specs.Resizing.{fitted_line}
use Rattle.term_model.specs.Term.{HasLead}

-- ---- one line

pub whole-wiped : (cols : ℕ) (pen : Attrs) → IsWhole (replicate cols (wiped pen))
whole-wiped cols pen = whole-narrow cols 32 (record plain { bg = pen.bg })

pub row-wiped : (cols : ℕ) (pen : Attrs) → IsRow cols (replicate cols (wiped pen))
row-wiped cols pen = record { long = length-replicate cols (wiped pen); whole = whole-wiped cols pen }

pub row-laid_at : (cols : ℕ) (row : List Cell) (at : ℕ) (cells : List Cell) → IsRow cols row → IsWhole cells → at + length cells ≤ cols → IsRow cols (laid_at row at cells)
row-laid_at cols row at cells h whole fits = record {
  long = length-laid_at row at cells (omega (arith, h.long)) ∙ h.long;
  whole = whole-laid_at row at cells h.whole whole;
}

pub row-fitted : (from cols : ℕ) (row : List Cell) → IsRow from row → IsRow cols (fitted_line cols row)
row-fitted from cols row h = record {
  long = omega (arith, length-append (mend_end (take cols row)) (blank_row (cols - length row)), length-mend_end (take cols row), length-take cols row, (row-blank_row (cols - length row)).long);
  whole = whole-append false (mend_end (take cols row)) (blank_row (cols - length row)) (front-whole cols row h.whole) (row-blank_row (cols - length row)).whole;
}

-- a lead takes as many places as columns
pub length-spread : (text : List ℕ) (width : ℕ) (attrs : Attrs) → (width ≡ 1) ⊎ (width ≡ 2) → length (spread (Lead text width attrs)) ≡ width
length-spread text width attrs h = elim h [ inl e ↦ rw e refl | inr e ↦ rw e refl ]

-- ---- lines

pub AllRows-append : (cols : ℕ) (rows more : List (List Cell)) → AllRows cols rows → AllRows cols more → AllRows cols (rows ++ more)
AllRows-append cols [] more all others = others
AllRows-append cols (row ∷ rows) more all others = (all.0, AllRows-append cols rows more all.1 others)

pub AllRows-take : (count cols : ℕ) (rows : List (List Cell)) → AllRows cols rows → AllRows cols (take count rows)
AllRows-take zero cols rows all = tt
AllRows-take (suc count) cols [] all = tt
AllRows-take (suc count) cols (row ∷ rows) all = (all.0, AllRows-take count cols rows all.1)

pub AllRows-replicate : (count cols : ℕ) (row : List Cell) → IsRow cols row → AllRows cols (replicate count row)
AllRows-replicate zero cols row h = tt
AllRows-replicate (suc count) cols row h = (h, AllRows-replicate count cols row h)

pub AllRows-fitted : (from cols : ℕ) (rows : List (List Cell)) → AllRows from rows → AllRows cols (map (fitted_line cols) rows)
AllRows-fitted from cols [] all = tt
AllRows-fitted from cols (row ∷ rows) all = (row-fitted from cols row all.0, AllRows-fitted from cols rows all.1)

-- ---- leads

slice_get-seam : (xs : List Cell) (y : Cell) (ys : List Cell) → slice_get (xs ++ y ∷ ys) (length xs) ≡ Some y
slice_get-seam [] y ys = refl
slice_get-seam (x ∷ xs) y ys = slice_get-seam xs y ys

-- what is put at a place stands there
pub slice_get-put_at : (row : List Cell) (at : ℕ) (text : List ℕ) (width : ℕ) (attrs : Attrs) → at ≤ length row
    → slice_get (put_at row at (Lead text width attrs)) at ≡ Some (Lead text width attrs)
slice_get-put_at row at text width attrs within =
    let lead = Lead text width attrs in
    let front = mend_end (take at row) in
    let tails = replicate (width - 1) Tail in
    let back = mend_start (drop (at + length (spread lead)) row) in
    let long : length front ≡ at = length-mend_end (take at row) ∙ length-take-le at row within in
    let parted : put_at row at lead ≡ front ++ lead ∷ (tails ++ back) = append_assoc front (lead ∷ tails) back in
    ap (λ cells. slice_get cells at) parted
    ∙ subst (λ (n : ℕ). slice_get (front ++ lead ∷ (tails ++ back)) n ≡ Some lead) long (slice_get-seam front lead (tails ++ back))

pub HasLead-put : (lines : List (List Cell)) (line at : ℕ) (text : List ℕ) (width : ℕ) (attrs : Attrs) → line < length lines → at ≤ length (row_at lines line)
    → (width ≡ 1) ⊎ (width ≡ 2) → HasLead (set lines line (put_at (row_at lines line) at (Lead text width attrs))) (line, at)
HasLead-put lines line at text width attrs above within h =
    rw (get_or-set_same lines line (put_at (row_at lines line) at (Lead text width attrs)) [] above)
    (rw (slice_get-put_at (row_at lines line) at text width attrs within) h)

some_after : (rest : List Cell) → IsWholeAfter true rest → 0 < length rest
some_after [] h = absurd h
some_after (cell ∷ rest) h = omega arith

-- a lead and its tail stand within a whole row
whole-within : (after : Bool) (row : List Cell) (at : ℕ) (text : List ℕ) (width : ℕ) (attrs : Attrs) → IsWholeAfter after row
    → slice_get row at ≡ Some (Lead text width attrs) → at + width ≤ length row
whole-within after [] at text width attrs h is = absurd (cc)
whole-within false (Lead more wide others ∷ rest) zero text width attrs h is =
    let same : wide ≡ width = cc in
    elim h [ inl p ↦ omega (arith, p.0) | inr p ↦ omega (arith, p.0, some_after rest p.1) ]
whole-within false (Lead more wide others ∷ rest) (suc at) text width attrs h is =
    elim h [ inl p ↦ omega (arith, whole-within false rest at text width attrs p.1 is) | inr p ↦ omega (arith, whole-within true rest at text width attrs p.1 is) ]
whole-within true (Lead more wide others ∷ rest) at text width attrs h is = absurd h
whole-within false (Tail ∷ rest) at text width attrs h is = absurd h
whole-within true (Tail ∷ rest) zero text width attrs h is = absurd (cc)
whole-within true (Tail ∷ rest) (suc at) text width attrs h is = omega (arith, whole-within false rest at text width attrs h is)

pub lead-within : (row : List Cell) (at : ℕ) (text : List ℕ) (width : ℕ) (attrs : Attrs) → IsWhole row
    → slice_get row at ≡ Some (Lead text width attrs) → at + width ≤ length row
lead-within row at text width attrs h is = whole-within false row at text width attrs h is
