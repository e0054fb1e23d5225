-- Cells that are laid into a row behind whole cells that are laid there.
use Prim.Native.Nat.{zero, suc}
use Rattle.std.proofs.Common.{◌≡◌, ℕ, ◌+◌, ◌≤◌, ◌<◌, if◌then◌else◌, nat_eq, inl, inr, Bool, true, false, List, [], ◌∷◌, ◌++◌, length, set, take, drop, refl, ap, subst, ◌∙◌, arith, append_assoc, length-append, length-take-le}
use Rattle.std.proofs.Math.Seq.{take-append_seam, drop-append-add}
use Rattle.std.proofs.lemmas.List.{append-nil, drop-drop, drop_all}
use Rattle.cell_grid.specs.declared.attrs.Attrs.{Attrs}
use Rattle.cell_grid.specs.declared.cell.Cell.{Cell}
use Rattle.cell_grid.specs.declared.cell.Cell.TheVariants.{Lead, Tail}
use Rattle.cell_grid.specs.Cell.{blank}
use Rattle.cell_grid.specs.Grid.{AllRows, row_at}
use Rattle.cell_grid.specs.Row.{IsWholeAfter, IsWhole, mended, mend_end, mend_start, laid_at}
use Rattle.cell_grid.proofs.RowLemmas.{length-mend_end}

-- ---- what is mended stays

-- whole cells
mend_end-whole : (after : Bool) (cells : List Cell) → IsWholeAfter after cells → mend_end cells ≡ cells
mend_end-whole after [] whole = refl
mend_end-whole false (Lead text width attrs ∷ []) whole =
    elim whole [ inl one ↦ rw one.0 refl | inr two ↦ absurd two.1 ]
mend_end-whole false (Lead text width attrs ∷ next ∷ rest) whole =
    elim whole [
      | inl one ↦ ap (λ (cells : List Cell). Lead text width attrs ∷ cells) (mend_end-whole false (next ∷ rest) one.1)
      | inr two ↦ ap (λ (cells : List Cell). Lead text width attrs ∷ cells) (mend_end-whole true (next ∷ rest) two.1)
    ]
mend_end-whole true (Lead text width attrs ∷ rest) whole = absurd whole
mend_end-whole false (Tail ∷ rest) whole = absurd whole
mend_end-whole true (Tail ∷ []) whole = refl
mend_end-whole true (Tail ∷ next ∷ rest) whole = ap (λ (cells : List Cell). Tail ∷ cells) (mend_end-whole false (next ∷ rest) whole)

mended-if : (wide : Bool) (text : List ℕ) (width : ℕ) (attrs : Attrs) → nat_eq width 2 ≡ wide → mended (if wide then blank else Lead text width attrs) ≡ (if wide then blank else Lead text width attrs)
mended-if true text width attrs is = refl
mended-if false text width attrs is = rw is refl

mended-twice : (cell : Cell) → mended (mended cell) ≡ mended cell
mended-twice (Lead text width attrs) = mended-if (nat_eq width 2) text width attrs refl
mended-twice Tail = refl

-- a mended front with whole cells behind it
mend_end-behind : (front cells : List Cell) → IsWhole cells → mend_end (mend_end front ++ cells) ≡ mend_end front ++ cells
mend_end-behind [] cells whole = mend_end-whole false cells whole
mend_end-behind (first ∷ []) [] whole = ap (λ (cell : Cell). cell ∷ []) (mended-twice first)
mend_end-behind (first ∷ []) (next ∷ cells) whole = ap (λ (rest : List Cell). mended first ∷ rest) (mend_end-whole false (next ∷ cells) whole)
mend_end-behind (first ∷ second ∷ []) cells whole = ap (λ (rest : List Cell). first ∷ rest) (mend_end-behind (second ∷ []) cells whole)
mend_end-behind (first ∷ second ∷ third ∷ front) cells whole =
    ap (λ (rest : List Cell). first ∷ rest) (mend_end-behind (second ∷ third ∷ front) cells whole)

-- the back of a mended back
mend_start-drop : (count : ℕ) (back : List Cell) → mend_start (drop count (mend_start back)) ≡ mend_start (drop count back)
mend_start-drop zero [] = refl
mend_start-drop zero (Lead text width attrs ∷ back) = refl
mend_start-drop zero (Tail ∷ back) = refl
mend_start-drop (suc count) [] = refl
mend_start-drop (suc count) (Lead text width attrs ∷ back) = refl
mend_start-drop (suc count) (Tail ∷ back) = refl

-- ---- cells behind others

laid_at-behind : (row : List Cell) (at place : ℕ) (cells behind : List Cell) → IsWhole cells → at + length cells ≤ length row → place ≡ at + length cells → laid_at (laid_at row at cells) place behind ≡ laid_at row at (cells ++ behind)
laid_at-behind row at place cells behind whole fits is =
    let front = mend_end (take at row) in
    let back = drop (at + length cells) row in
    let long : length (front ++ cells) ≡ place = omega (arith, length-append front cells, length-mend_end (take at row), length-take-le at row (omega arith)) in
    let before : take place ((front ++ cells) ++ mend_start back) ≡ front ++ cells =
    subst (λ (n : ℕ). take n ((front ++ cells) ++ mend_start back) ≡ front ++ cells) long (take-append_seam (front ++ cells) (mend_start back))
    in
    let after : drop (place + length behind) ((front ++ cells) ++ mend_start back) ≡ drop (length behind) (mend_start back) =
    subst (λ (n : ℕ). drop (n + length behind) ((front ++ cells) ++ mend_start back) ≡ drop (length behind) (mend_start back)) long (drop-append-add (front ++ cells) (mend_start back) (length behind))
    in
    let end : at + length cells + length behind ≡ at + length (cells ++ behind) = omega (arith, length-append cells behind) in
    ap (λ (start : List Cell). mend_end start ++ behind ++ mend_start (drop (place + length behind) ((front ++ cells) ++ mend_start back))) before
    ∙ ap (λ (start : List Cell). start ++ behind ++ mend_start (drop (place + length behind) ((front ++ cells) ++ mend_start back))) (mend_end-behind (take at row) cells whole)
    ∙ ap (λ (rest : List Cell). front ++ cells ++ behind ++ mend_start rest) after
    ∙ ap (λ (rest : List Cell). front ++ cells ++ behind ++ rest)
    (mend_start-drop (length behind) back ∙ ap mend_start (drop-drop (length behind) (at + length cells) row ∙ ap (λ (n : ℕ). drop n row) end))
    ∙ ap (λ (start : List Cell). start ++ mend_start (drop (at + length (cells ++ behind)) row)) (append_assoc front cells behind)

-- in a row of a grid
pub set-behind : (cols : ℕ) (grid : List (List Cell)) (row at place : ℕ) (cells behind : List Cell) → AllRows cols grid → row < length grid → IsWhole cells → at + length cells ≤ cols → place ≡ at + length cells → set (set grid row (laid_at (row_at grid row) at cells)) row (laid_at (row_at (set grid row (laid_at (row_at grid row) at cells)) row) place behind) ≡ set grid row (laid_at (row_at grid row) at (cells ++ behind))
set-behind cols [] row at place cells behind every within whole fits is = absurd (omega arith)
set-behind cols (first ∷ grid) zero at place cells behind every within whole fits is =
    ap (λ (line : List Cell). line ∷ grid) (laid_at-behind first at place cells behind whole (omega (arith, every.0.long)) is)
set-behind cols (first ∷ grid) (suc row) at place cells behind every within whole fits is =
    ap (λ (rest : List (List Cell)). first ∷ rest) (set-behind cols grid row at place cells behind every.1 (omega arith) whole fits is)

-- ---- cells over a whole row

pub laid_at-all : (row cells : List Cell) → length row ≡ length cells → laid_at row 0 cells ≡ cells
laid_at-all row cells long = ap (λ (back : List Cell). cells ++ mend_start back) (drop_all (0 + length cells) row (omega arith)) ∙ append-nil cells
