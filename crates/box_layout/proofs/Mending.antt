-- Rows without halves of wide characters, and whole cells laid into them.
use Prim.Native.Nat.{zero, suc}
use Rattle.std.proofs.Common.{◌≡◌, ℕ, ◌+◌, ◌≤◌, inl, inr, Bool, true, false, not, ◌&&◌, if◌then◌else◌, nat_eq, List, [], ◌∷◌, ◌++◌, length, take, drop, refl, sym, ap, ◌∙◌, arith, append_assoc}
use Rattle.std.proofs.lemmas.Bool.{false≢true}
use Rattle.cell_grid.specs.declared.attrs.Attrs.{Attrs}
use Rattle.cell_grid.specs.declared.cell.Cell.{Cell}
use Rattle.cell_grid.specs.declared.cell.Cell.TheVariants.{Lead, Tail}
use Rattle.cell_grid.specs.Cell.{blank}
use Rattle.cell_grid.specs.Row.{IsWholeAfter, IsWhole, mended, mend_end, mend_start, laid_at}
use Rattle.box_layout.specs.Painting.{begins_with_tail, mended_after, without_halves}

-- a Lead without halves, where its Tail stands behind it or not
abbrev mended_lead : Bool → Bool → Cell → Cell
mended_lead wide tail cell = if wide && not tail then blank else cell

-- ---- the front of a row

-- the last cell
mended-last : (wide tail : Bool) (text : List ℕ) (width : ℕ) (attrs : Attrs) → nat_eq width 2 ≡ wide → mended (mended_lead wide tail (Lead text width attrs)) ≡ mended_lead wide false (Lead text width attrs)
mended-last true true text width attrs is = rw is refl
mended-last true false text width attrs is = refl
mended-last false tail text width attrs is = rw is refl

-- a cell that has no half behind it stays
mended-alone : (wide : Bool) (text : List ℕ) (width : ℕ) (attrs : Attrs) → nat_eq width 2 ≡ wide → mended (mended_lead wide false (Lead text width attrs)) ≡ mended_lead wide false (Lead text width attrs)
mended-alone true text width attrs is = refl
mended-alone false text width attrs is = rw is refl

-- one more cell in front of some
mend_end-more : (cell : Cell) (wide : Bool) (count : ℕ) (next : Cell) (rest : List Cell) → mend_end (cell ∷ take (suc count) (mended_after wide (next ∷ rest))) ≡ cell ∷ mend_end (take (suc count) (mended_after wide (next ∷ rest)))
mend_end-more cell wide count (Lead text width attrs) rest = refl
mend_end-more cell true count Tail rest = refl
mend_end-more cell false count Tail rest = refl

tail-taken : (count : ℕ) (cells : List Cell) → begins_with_tail (take (suc count) cells) ≡ begins_with_tail cells
tail-taken count [] = refl
tail-taken count (Lead text width attrs ∷ cells) = refl
tail-taken count (Tail ∷ cells) = refl

-- the front of a mended row, mended where it is cut, is the mended front
pub mended-front : (wide : Bool) (count : ℕ) (cells : List Cell) → mend_end (take count (mended_after wide cells)) ≡ mended_after wide (take count cells)
mended-front wide zero cells = refl
mended-front wide (suc count) [] = refl
mended-front wide (suc zero) (Lead text width attrs ∷ rest) =
    ap (λ (cell : Cell). cell ∷ []) (mended-last (nat_eq width 2) (begins_with_tail rest) text width attrs refl)
mended-front wide (suc (suc count)) (Lead text width attrs ∷ []) =
    ap (λ (cell : Cell). cell ∷ []) (mended-alone (nat_eq width 2) text width attrs refl)
mended-front wide (suc (suc count)) (Lead text width attrs ∷ next ∷ rest) =
    mend_end-more (mended_lead (nat_eq width 2) (begins_with_tail (next ∷ rest)) (Lead text width attrs)) (nat_eq width 2) count next rest
    ∙ ap (λ (cells : List Cell). mended_lead (nat_eq width 2) (begins_with_tail (next ∷ rest)) (Lead text width attrs) ∷ cells) (mended-front (nat_eq width 2) (suc count) (next ∷ rest))
    ∙ ap (λ (tail : Bool). mended_lead (nat_eq width 2) tail (Lead text width attrs) ∷ mended_after (nat_eq width 2) (take (suc count) (next ∷ rest))) (sym (tail-taken count (next ∷ rest)))
mended-front true (suc zero) (Tail ∷ rest) = refl
mended-front false (suc zero) (Tail ∷ rest) = refl
mended-front true (suc (suc count)) (Tail ∷ []) = refl
mended-front false (suc (suc count)) (Tail ∷ []) = refl
mended-front true (suc (suc count)) (Tail ∷ next ∷ rest) =
    mend_end-more Tail false count next rest ∙ ap (λ (cells : List Cell). Tail ∷ cells) (mended-front false (suc count) (next ∷ rest))
mended-front false (suc (suc count)) (Tail ∷ next ∷ rest) =
    mend_end-more blank false count next rest ∙ ap (λ (cells : List Cell). blank ∷ cells) (mended-front false (suc count) (next ∷ rest))

-- ---- the back of a row

mended-start : (test : Bool) (text : List ℕ) (width : ℕ) (attrs : Attrs) (rest : List Cell) → mend_start ((if test then blank else Lead text width attrs) ∷ rest) ≡ (if test then blank else Lead text width attrs) ∷ rest
mended-start true text width attrs rest = refl
mended-start false text width attrs rest = refl

-- the back of a mended row, mended where it is cut, is the mended back
pub mended-back : (wide : Bool) (count : ℕ) (cells : List Cell) → mend_start (drop count (mended_after wide cells)) ≡ without_halves (drop count cells)
mended-back wide zero [] = refl
mended-back wide zero (Lead text width attrs ∷ rest) =
    mended-start (nat_eq width 2 && not (begins_with_tail rest)) text width attrs (mended_after (nat_eq width 2) rest)
mended-back true zero (Tail ∷ rest) = refl
mended-back false zero (Tail ∷ rest) = refl
mended-back wide (suc count) [] = refl
mended-back wide (suc count) (Lead text width attrs ∷ rest) = mended-back (nat_eq width 2) count rest
mended-back true (suc count) (Tail ∷ rest) = mended-back false count rest
mended-back false (suc count) (Tail ∷ rest) = mended-back false count rest

-- ---- whole cells between the two

-- whole cells stay, and the row behind them is mended by itself
whole-mended : (wide : Bool) (cells back : List Cell) → IsWholeAfter wide cells → mended_after wide (cells ++ back) ≡ cells ++ without_halves back
whole-mended false [] back whole = refl
whole-mended true [] back whole = absurd whole
whole-mended false (Lead text width attrs ∷ []) back whole =
    elim whole [ inl one ↦ rw one.0 refl | inr two ↦ absurd two.1 ]
whole-mended false (Lead text width attrs ∷ Lead more columns others ∷ rest) back whole =
    elim whole [
      | inl one ↦ rw one.0 (ap (λ (cells : List Cell). Lead text 1 attrs ∷ cells) (whole-mended false (Lead more columns others ∷ rest) back one.1))
      | inr two ↦ absurd two.1
    ]
whole-mended false (Lead text width attrs ∷ Tail ∷ rest) back whole =
    elim whole [
      | inl one ↦ absurd one.1
      | inr two ↦ rw two.0 (ap (λ (cells : List Cell). Lead text 2 attrs ∷ Tail ∷ cells) (whole-mended false rest back two.1))
    ]
whole-mended true (Lead text width attrs ∷ rest) back whole = absurd whole
whole-mended false (Tail ∷ rest) back whole = absurd whole
whole-mended true (Tail ∷ rest) back whole = ap (λ (cells : List Cell). Tail ∷ cells) (whole-mended false rest back whole)

-- ---- the row

-- cells that begin with a Lead, behind a front
begins-joined : (front cells : List Cell) → begins_with_tail cells ≡ false → begins_with_tail (front ++ cells) ≡ begins_with_tail front
begins-joined [] cells lead = lead
begins-joined (Lead text width attrs ∷ front) cells lead = refl
begins-joined (Tail ∷ front) cells lead = refl

begins-whole : (cells back : List Cell) → IsWhole cells → 1 ≤ length cells → begins_with_tail (cells ++ back) ≡ false
begins-whole [] back whole some = absurd (omega arith)
begins-whole (Lead text width attrs ∷ rest) back whole some = refl
begins-whole (Tail ∷ rest) back whole some = absurd whole

-- before a Lead it is no matter what stands in front
mended-lead : (wide : Bool) (cells : List Cell) → begins_with_tail cells ≡ false → mended_after wide cells ≡ without_halves cells
mended-lead wide [] lead = refl
mended-lead wide (Lead text width attrs ∷ cells) lead = refl
mended-lead wide (Tail ∷ cells) lead = absurd (false≢true (sym lead))

mended-joined : (wide : Bool) (front cells : List Cell) → begins_with_tail cells ≡ false → mended_after wide (front ++ cells) ≡ mended_after wide front ++ without_halves cells
mended-joined wide [] cells lead = mended-lead wide cells lead
mended-joined wide (Lead text width attrs ∷ front) cells lead =
    ap (λ (tail : Bool). mended_lead (nat_eq width 2) tail (Lead text width attrs) ∷ mended_after (nat_eq width 2) (front ++ cells)) (begins-joined front cells lead)
    ∙ ap (λ (rest : List Cell). mended_lead (nat_eq width 2) (begins_with_tail front) (Lead text width attrs) ∷ rest) (mended-joined (nat_eq width 2) front cells lead)
mended-joined true (Tail ∷ front) cells lead = ap (λ (rest : List Cell). Tail ∷ rest) (mended-joined false front cells lead)
mended-joined false (Tail ∷ front) cells lead = ap (λ (rest : List Cell). blank ∷ rest) (mended-joined false front cells lead)

-- laying whole cells over a mended row is mending the row with these cells in it
pub laid-without_halves : (row : List Cell) (at : ℕ) (cells : List Cell) → IsWhole cells → 1 ≤ length cells → laid_at (without_halves row) at cells ≡ without_halves (take at row ++ cells ++ drop (at + length cells) row)
laid-without_halves row at cells whole some =
    let back = drop (at + length cells) row in
    ap (λ (front : List Cell). front ++ cells ++ mend_start (drop (at + length cells) (without_halves row))) (mended-front false at row)
    ∙ ap (λ (rest : List Cell). without_halves (take at row) ++ cells ++ rest) (mended-back false (at + length cells) row)
    ∙ append_assoc (without_halves (take at row)) cells (without_halves back)
    ∙ ap (λ (rest : List Cell). without_halves (take at row) ++ rest) (sym (whole-mended false cells back whole))
    ∙ sym (mended-joined false (take at row) (cells ++ back) (begins-whole cells back whole some))
    ∙ ap without_halves (sym (append_assoc (take at row) cells back))
