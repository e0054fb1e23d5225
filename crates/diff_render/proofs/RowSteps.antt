-- One column of a line after another.
use Prim.Native.Nat.{zero, suc}
use Rattle.std.proofs.Common.{◌≡◌, ℕ, ◌+◌, ◌<◌, ◌≤◌, ◌⊎◌, Bool, true, false, List, [], ◌∷◌, ◌++◌, length, take, drop}
use Rattle.std.proofs.Common.{get_or, refl, sym, ap, ◌∙◌, subst, arith, append_assoc, length-append, length-take-le}
use Rattle.std.proofs.Common.{length-drop, take-append-drop, drop-cons, ⊎_elim, inl, inr}
use Rattle.std.proofs.Math.Seq.{take-append_seam, take-suc, drop-append-add}
use Rattle.std.proofs.lemmas.Bool.{cases_Bool}
use Rattle.std.proofs.lemmas.List.{get_or_read}
use Rattle.cell_grid.specs.declared.cell.Cell.{Cell}
use Rattle.cell_grid.specs.declared.cell.Cell.TheVariants.{Lead, Tail}
use Rattle.cell_grid.specs.declared.attrs.Attrs.{Attrs}
use Rattle.cell_grid.specs.Cell.{blank, same_cell, spread}
use Rattle.cell_grid.specs.Same.{same_cell-Decides}
use Rattle.cell_grid.specs.Row.{IsWholeAfter, IsWhole, mended, mend_end, mend_start, put_at, laid_at}
use Rattle.cell_grid.proofs.RowLemmas.{length-mend_start}
use Rattle.diff_render.specs.declared.writer.Writer.{Writer}
use Rattle.diff_render.specs.Changes.{cell_at, one_if_not, changed_in}
use Rattle.cell_grid.specs.Drawable.{IsDrawable, AllDrawable}
use Rattle.diff_render.specs.Fits.{FitsAt}
use Rattle.diff_render.specs.Writer.{IsPlaced, Stood}
use Rattle.diff_render.specs.Redrawing.{settled, half_drawn, redone, redone_by, Redraws, RowSoFar}
use Rattle.diff_render.proofs.Moves.{same_then}

-- ---- parts of a whole row

-- what stands behind a part of a row is whole, or begins with the Tail of a Lead in that part
pub rest_whole : (after : Bool) (front rest : List Cell) → IsWholeAfter after (front ++ rest) → IsWhole rest ⊎ IsWholeAfter true rest
rest_whole false [] rest h = inl h
rest_whole true [] rest h = inr h
rest_whole false (Lead text width attrs ∷ front) rest h = elim h [ inl p ↦ rest_whole false front rest p.1 | inr p ↦ rest_whole true front rest p.1 ]
rest_whole true (Lead text width attrs ∷ front) rest h = absurd h
rest_whole false (Tail ∷ front) rest h = absurd h
rest_whole true (Tail ∷ front) rest h = rest_whole false front rest h

-- from a Lead on it is whole
lead_whole : (after : Bool) (front : List Cell) (text : List ℕ) (width : ℕ) (attrs : Attrs) (rest : List Cell) → IsWholeAfter after (front ++ Lead text width attrs ∷ rest)
    → ((width ≡ 1) × IsWhole rest) ⊎ ((width ≡ 2) × IsWholeAfter true rest)
lead_whole after front text width attrs rest h = elim (rest_whole after front (Lead text width attrs ∷ rest) h) [ inl p ↦ p | inr p ↦ absurd p ]

-- behind a Tail it is whole
tail_whole : (after : Bool) (front rest : List Cell) → IsWholeAfter after (front ++ Tail ∷ rest) → IsWhole rest
tail_whole after front rest h = elim (rest_whole after front (Tail ∷ rest) h) [ inl p ↦ absurd p | inr p ↦ p ]

narrow_kept : (text : List ℕ) (width : ℕ) (attrs : Attrs) → width ≡ 1 → mended (Lead text width attrs) ≡ Lead text width attrs
narrow_kept text width attrs e = rw e refl

-- a part before a Lead loses nothing where it is cut off
pub front_kept : (after : Bool) (front : List Cell) (text : List ℕ) (width : ℕ) (attrs : Attrs) (rest : List Cell) → IsWholeAfter after (front ++ Lead text width attrs ∷ rest)
    → mend_end front ≡ front
front_kept after [] text width attrs rest h = refl
front_kept after (Tail ∷ []) text width attrs rest h = refl
front_kept true (Lead other wide more ∷ []) text width attrs rest h = absurd h
front_kept false (Lead other wide more ∷ []) text width attrs rest h =
    elim h [ inl p ↦ ap (λ c. c ∷ []) (narrow_kept other wide more p.0) | inr p ↦ absurd p.1 ]
front_kept true (Tail ∷ next ∷ front) text width attrs rest h = ap (λ cs. Tail ∷ cs) (front_kept false (next ∷ front) text width attrs rest h)
front_kept false (Tail ∷ next ∷ front) text width attrs rest h = absurd h
front_kept true (Lead other wide more ∷ next ∷ front) text width attrs rest h = absurd h
front_kept false (Lead other wide more ∷ next ∷ front) text width attrs rest h =
    elim h [
      | inl p ↦ ap (λ cs. Lead other wide more ∷ cs) (front_kept false (next ∷ front) text width attrs rest p.1)
      | inr p ↦ ap (λ cs. Lead other wide more ∷ cs) (front_kept true (next ∷ front) text width attrs rest p.1)
    ]

pub start_kept : (cells : List Cell) → IsWhole cells → mend_start cells ≡ cells
start_kept [] h = refl
start_kept (Lead text width attrs ∷ rest) h = refl
start_kept (Tail ∷ rest) h = absurd h

pub settled_whole : (new old : List Cell) → IsWhole new → settled new old ≡ mend_start old
settled_whole [] old h = refl
settled_whole (Lead text width attrs ∷ new) old h = refl
settled_whole (Tail ∷ new) old h = absurd h

-- ---- one column

first_dropped : (o : Cell) (old : List Cell) → drop 1 (mend_start (o ∷ old)) ≡ old
first_dropped (Lead text width attrs) old = refl
first_dropped Tail old = refl

two_dropped : (o : Cell) (old : List Cell) → drop 2 (mend_start (o ∷ old)) ≡ drop 1 old
two_dropped (Lead text width attrs) old = refl
two_dropped Tail old = refl

-- a Lead that is put at the end of what was redrawn
put_narrow : (done : List Cell) (o : Cell) (old : List Cell) (text : List ℕ) (width : ℕ) (attrs : Attrs) → mend_end done ≡ done → width ≡ 1
    → put_at (done ++ mend_start (o ∷ old)) (length done) (Lead text width attrs) ≡ (done ++ Lead text width attrs ∷ []) ++ mend_start old
put_narrow done o old text width attrs kept e =
    let line = done ++ mend_start (o ∷ old) in
    let lead = Lead text width attrs in
    let one : spread lead ≡ lead ∷ [] = rw e refl in
    ap (λ s. laid_at line (length done) s) one
    ∙ ap (λ x. mend_end x ++ lead ∷ [] ++ mend_start (drop (length done + 1) line)) (take-append_seam done (mend_start (o ∷ old)))
    ∙ ap (λ x. x ++ lead ∷ [] ++ mend_start (drop (length done + 1) line)) kept
    ∙ ap (λ x. done ++ lead ∷ [] ++ mend_start x) (drop-append-add done (mend_start (o ∷ old)) 1 ∙ first_dropped o old)

put_wide : (done : List Cell) (o : Cell) (old : List Cell) (text : List ℕ) (width : ℕ) (attrs : Attrs) → mend_end done ≡ done → width ≡ 2
    → put_at (done ++ mend_start (o ∷ old)) (length done) (Lead text width attrs) ≡ (done ++ Lead text width attrs ∷ []) ++ (Tail ∷ mend_start (drop 1 old))
put_wide done o old text width attrs kept e =
    let line = done ++ mend_start (o ∷ old) in
    let lead = Lead text width attrs in
    let two : spread lead ≡ lead ∷ Tail ∷ [] = rw e refl in
    ap (λ s. laid_at line (length done) s) two
    ∙ ap (λ x. mend_end x ++ (lead ∷ Tail ∷ []) ++ mend_start (drop (length done + 2) line)) (take-append_seam done (mend_start (o ∷ old)))
    ∙ ap (λ x. x ++ (lead ∷ Tail ∷ []) ++ mend_start (drop (length done + 2) line)) kept
    ∙ ap (λ x. done ++ (lead ∷ Tail ∷ []) ++ mend_start x) (drop-append-add done (mend_start (o ∷ old)) 2 ∙ two_dropped o old)
    ∙ append_assoc done (lead ∷ Tail ∷ []) (mend_start (drop 1 old)) ∙ sym (append_assoc done (lead ∷ []) (Tail ∷ mend_start (drop 1 old)))

-- a Lead that was there already
kept_narrow : (done : List Cell) (old new : List Cell) (cell : Cell) → IsWhole old → IsWhole new → done ++ cell ∷ old ≡ (done ++ cell ∷ []) ++ settled new old
kept_narrow done old new cell h k =
    sym (append_assoc done (cell ∷ []) old) ∙ ap (λ x. done ++ cell ∷ [] ++ x) (sym (settled_whole new old k ∙ start_kept old h))

kept_wide : (done : List Cell) (old new : List Cell) (cell : Cell) → IsWholeAfter true old → IsWholeAfter true new → done ++ cell ∷ old ≡ (done ++ cell ∷ []) ++ settled new old
kept_wide done [] new cell h k = absurd h
kept_wide done (Lead text width attrs ∷ old) new cell h k = absurd h
kept_wide done (Tail ∷ old) [] cell h k = absurd k
kept_wide done (Tail ∷ old) (Lead text width attrs ∷ new) cell h k = absurd k
kept_wide done (Tail ∷ old) (Tail ∷ new) cell h k =
    sym (append_assoc done (cell ∷ []) (Tail ∷ old)) ∙ ap (λ x. done ++ cell ∷ [] ++ Tail ∷ x) (sym (start_kept old h))

settled_wide : (new old : List Cell) → IsWholeAfter true new → settled new old ≡ Tail ∷ mend_start (drop 1 old)
settled_wide [] old h = absurd h
settled_wide (Lead text width attrs ∷ new) old h = absurd h
settled_wide (Tail ∷ new) old h = refl

one_two : (n : ℕ) → n ≡ 1 → n ≡ 2 → ⊥
one_two n a b = omega arith

step_same : (done old new : List Cell) (text : List ℕ) (width : ℕ) (attrs : Attrs) → IsWhole (done ++ Lead text width attrs ∷ new)
    → IsWhole (Lead text width attrs ∷ old) ⊎ IsWholeAfter true (Lead text width attrs ∷ old)
    → done ++ Lead text width attrs ∷ old ≡ (done ++ Lead text width attrs ∷ []) ++ settled new old
step_same done old new text width attrs h k =
    elim k [
      | inl p ↦ elim p [
        | inl a ↦ elim (lead_whole false done text width attrs new h) [
          | inl b ↦ kept_narrow done old new (Lead text width attrs) a.1 b.1
          | inr b ↦ absurd (one_two width a.0 b.0)
        ]
        | inr a ↦ elim (lead_whole false done text width attrs new h) [
          | inl b ↦ absurd (one_two width b.0 a.0)
          | inr b ↦ kept_wide done old new (Lead text width attrs) a.1 b.1
        ]
      ]
      | inr p ↦ absurd p
    ]

step_put : (done old new : List Cell) (o : Cell) (text : List ℕ) (width : ℕ) (attrs : Attrs) → IsWhole (done ++ Lead text width attrs ∷ new)
    → put_at (done ++ mend_start (o ∷ old)) (length done) (Lead text width attrs) ≡ (done ++ Lead text width attrs ∷ []) ++ settled new old
step_put done old new o text width attrs h =
    let kept = front_kept false done text width attrs new h in
    elim (lead_whole false done text width attrs new h) [
      | inl p ↦ put_narrow done o old text width attrs kept p.0 ∙ ap (λ x. done ++ Lead text width attrs ∷ [] ++ x) (sym (settled_whole new old p.1))
      | inr p ↦ put_wide done o old text width attrs kept p.0 ∙ ap (λ x. done ++ Lead text width attrs ∷ [] ++ x) (sym (settled_wide new old p.1))
    ]

step_cells : (done old new : List Cell) (o n : Cell) → IsWhole (done ++ n ∷ new) → IsWhole (o ∷ old) ⊎ IsWholeAfter true (o ∷ old)
    → redone (done ++ settled (n ∷ new) (o ∷ old)) (length done) o n ≡ (done ++ n ∷ []) ++ settled new old
step_cells done old new o Tail h k =
    ap (λ x. done ++ Tail ∷ x) (sym (settled_whole new old (tail_whole false done new h))) ∙ sym (append_assoc done (Tail ∷ []) (settled new old))
step_cells done old new o (Lead text width attrs) h k = ⊎_elim
    (λ (same : same_cell o (Lead text width attrs) ≡ true).
    let is : o ≡ Lead text width attrs = (same_cell-Decides o (Lead text width attrs)).0 same in
    let there : IsWhole (Lead text width attrs ∷ old) ⊎ IsWholeAfter true (Lead text width attrs ∷ old) = subst (λ c. IsWhole (c ∷ old) ⊎ IsWholeAfter true (c ∷ old)) is k in
    ap (λ b. redone_by b (done ++ mend_start (o ∷ old)) (length done) (Lead text width attrs)) same
    ∙ ap (λ c. done ++ mend_start (c ∷ old)) is ∙ step_same done old new text width attrs h there)
    (λ (differ : same_cell o (Lead text width attrs) ≡ false).
    ap (λ b. redone_by b (done ++ mend_start (o ∷ old)) (length done) (Lead text width attrs)) differ ∙ step_put done old new o text width attrs h)
    (cases_Bool (same_cell o (Lead text width attrs)))

-- ---- the same by places

at_place : (cells : List Cell) (at : ℕ) (c : Cell) → at < length cells → c ≡ get_or cells at c → drop at cells ≡ c ∷ drop (at + 1) cells
at_place cells at c h e =
    let next : suc at ≡ at + 1 = omega arith in
    drop-cons cells at c h ∙ ap (λ x. x ∷ drop (suc at) cells) (sym e) ∙ ap (λ k. c ∷ drop k cells) next

up_to_place : (cells : List Cell) (at : ℕ) (c : Cell) → at < length cells → c ≡ get_or cells at c → take (at + 1) cells ≡ take at cells ++ c ∷ []
up_to_place cells at c h e =
    let next : at + 1 ≡ suc at = omega arith in
    ap (λ k. take k cells) next ∙ take-suc cells at c h ∙ ap (λ x. take at cells ++ x ∷ []) (sym e)

cut_whole : (cells : List Cell) (at : ℕ) (c : Cell) → at < length cells → c ≡ get_or cells at c → cells ≡ take at cells ++ c ∷ drop (at + 1) cells
cut_whole cells at c h e = sym (take-append-drop at cells) ∙ ap (λ x. take at cells ++ x) (at_place cells at c h e)

step_row : (old new : List Cell) (at : ℕ) (o n : Cell) → IsWhole old → IsWhole new → at < length old → at < length new → o ≡ get_or old at o → n ≡ get_or new at n
    → redone (half_drawn old new at) at o n ≡ half_drawn old new (at + 1)
step_row old new at o n whole_old whole_new in_old in_new is_o is_n =
    let done = take at new in
    let olds = drop (at + 1) old in
    let news = drop (at + 1) new in
    let here : length done ≡ at = length-take-le at new (omega arith) in
    let rest : IsWhole (o ∷ olds) ⊎ IsWholeAfter true (o ∷ olds) =
    rest_whole false (take at old) (o ∷ olds) (subst IsWhole (cut_whole old at o in_old is_o) whole_old) in
    ap (λ x. redone (done ++ settled x (drop at old)) at o n) (at_place new at n in_new is_n)
    ∙ ap (λ x. redone (done ++ settled (n ∷ news) x) at o n) (at_place old at o in_old is_o)
    ∙ ap (λ k. redone (done ++ settled (n ∷ news) (o ∷ olds)) k o n) (sym here)
    ∙ step_cells done olds news o n (subst IsWhole (cut_whole new at n in_new is_n) whole_new) rest
    ∙ ap (λ x. x ++ settled news olds) (sym (up_to_place new at n in_new is_n))

-- before the first column, and behind the last one
pub half_none : (old new : List Cell) → IsWhole old → IsWhole new → half_drawn old new 0 ≡ old
half_none old new h k = settled_whole new old k ∙ start_kept old h

length_settled : (new old : List Cell) → length new ≡ length old → length (settled new old) ≡ length old
length_settled [] old h = length-mend_start old
length_settled (Lead text width attrs ∷ new) old h = length-mend_start old
length_settled (Tail ∷ new) old h = omega (arith, length-mend_start (drop 1 old), length-drop 1 old)

pub length_half : (old new : List Cell) (at : ℕ) → length old ≡ length new → at ≤ length new → length (half_drawn old new at) ≡ length old
length_half old new at h within =
    omega (
      arith,
      length-append (take at new) (settled (drop at new) (drop at old)),
      length-take-le at new within,
      length_settled (drop at new) (drop at old) (omega (arith, length-drop at new, length-drop at old)),
      length-drop at old,
    )

-- a cell that stands in a whole row fits there
pub fits_here : (cells : List Cell) (at cols : ℕ) (c : Cell) → IsWhole cells → length cells ≡ cols → at < length cells → c ≡ get_or cells at c → FitsAt at c cols
fits_here cells at cols Tail whole long within is = tt
fits_here cells at cols (Lead text width attrs) whole long within is =
    let rest = drop (at + 1) cells in
    let left : length rest + (at + 1) ≡ cols = omega (arith, length-drop (at + 1) cells) in
    elim (lead_whole false (take at cells) text width attrs rest (subst IsWhole (cut_whole cells at (Lead text width attrs) within is) whole)) [
      | inl p ↦ (inl p.0, omega (arith, p.0))
      | inr p ↦ (inr p.0, wide rest p.1 (λ some. omega (arith, p.0)))
    ]
  where
    wide : {P : Type 0} (rest : List Cell) → IsWholeAfter true rest → (0 < length rest → P) → P
    wide [] h k = absurd h
    wide (c ∷ cs) h k = k (omega arith)

pub drawable_here : (cells : List Cell) (at : ℕ) (c : Cell) → AllDrawable cells → at < length cells → c ≡ get_or cells at c → IsDrawable c
drawable_here [] at c h within is = absurd (omega arith)
drawable_here (x ∷ xs) zero c h within is = subst IsDrawable (sym is) h.0
drawable_here (x ∷ xs) (suc at) c h within is = drawable_here xs at c h.1 (omega arith) is

changed_here : (old new : List Cell) (at : ℕ) (o n : Cell) → at < length old → at < length new → o ≡ get_or old at o → n ≡ get_or new at n
    → changed_in (drop at old) (drop at new) ≡ one_if_not (same_cell o n) + changed_in (drop (at + 1) old) (drop (at + 1) new)
changed_here old new at o n in_old in_new is_o is_n =
    ap (λ x. changed_in x (drop at new)) (at_place old at o in_old is_o) ∙ ap (λ x. changed_in (o ∷ drop (at + 1) old) x) (at_place new at n in_new is_n)

-- one column more
pub row_more : (w v x : Writer) (old new : List Cell) (at : ℕ) (o n : Cell) → IsWhole old → IsWhole new → length old ≡ w.cols → length new ≡ w.cols
    → at < length old → at < length new → o ≡ get_or old at o → n ≡ get_or new at n → RowSoFar w v old new at → Redraws v x at o n → RowSoFar w x old new (at + 1)
row_more w v x old new at o n whole_old whole_new long_old long_new in_old in_new is_o is_n so_far redraws = record {
  stands = λ ok from above below place may stood.
      let half = half_drawn old new at in
      let passes : same_cell o n ≡ false → ok v.row at ≡ true = λ differ.
      ap (λ r. ok r at) so_far.to_row
      ∙ may at (ap (λ c. same_cell c (cell_at new at)) (sym (get_or_read old at o in_old is_o blank)) ∙ ap (λ c. same_cell o c) (sym (get_or_read new at n in_new is_n blank)) ∙ differ) in
      subst (λ l. Stood ok x from (above ++ l ∷ below)) (step_row old new at o n whole_old whole_new in_old in_new is_o is_n)
      (redraws.stands ok from above below half (place ∙ sym so_far.to_row)
      (length_half old new at (long_old ∙ sym long_new) (omega arith) ∙ long_old ∙ sym so_far.same.cols) passes (so_far.stands ok from above below place may stood));
  to_row = redraws.to_row ∙ so_far.to_row;
  same = same_then w v x so_far.same redraws.same;
  placed = redraws.placed;
  short = omega (arith, redraws.short, so_far.short, changed_here old new at o n in_old in_new is_o is_n);
}

pub row_none : (w : Writer) (old new : List Cell) → IsPlaced w → IsWhole old → IsWhole new → RowSoFar w w old new 0
row_none w old new placed whole_old whole_new = record {
  stands = λ ok from above below place may stood. subst (λ l. Stood ok w from (above ++ l ∷ below)) (sym (half_none old new whole_old whole_new)) stood;
  to_row = refl;
  same = record { rows = refl; cols = refl; height = refl };
  placed = placed;
  short = omega arith;
}
