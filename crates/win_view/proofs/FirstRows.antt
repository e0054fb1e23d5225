-- What the first row of a line says of its rows, and how it is found.
use Prim.Native.Nat.{zero, suc}
use Rattle.std.proofs.Common.{◌≡◌, ◌≢◌, ℕ, ◌+◌, ◌-◌, ◌≤◌, ◌<◌, min, inl, inr, Bool, true, false, List, [], ◌∷◌, ◌++◌, length, get_or, take, drop, refl, sym, ap, ◌∙◌, subst, arith, append-nil, append_assoc, length-take-le, length-drop, take-append-drop}
use Rattle.std.specs.List.{flat_map}
use Rattle.std.proofs.Math.Seq.{take-add}
use Rattle.std.proofs.lemmas.List.{take_all, drop_all, take-take}
use Rattle.cell_grid.specs.declared.attrs.Attrs.{Attrs}
use Rattle.cell_grid.specs.declared.cell.Cell.{Cell}
use Rattle.cell_grid.specs.declared.cell.Cell.TheVariants.{Lead, Tail}
use Rattle.cell_grid.specs.Cell.{IsLead}
use Rattle.cell_grid.specs.Row.{IsWholeAfter, IsWhole}
use Rattle.win_view.specs.Contents.{rows_to}
use Rattle.win_view.specs.FirstRow.{IsFirstRow, first_columns}
use Rattle.win_view.specs.Rows.{narrowed_cell, holdable, rows_of}
use Rattle.win_view.proofs.Holds.{one_or_more, holdable-wide, first_columns-holdable, rows_of-cut, rows_of-take, rows_of-fits}

-- ---- whole cells begin with a Lead

pub lead_of_whole : (text : List ℕ) (columns : ℕ) (attrs : Attrs) (cells : List Cell) → IsWhole (Lead text columns attrs ∷ cells) → IsLead (Lead text columns attrs)
lead_of_whole text columns attrs cells whole = elim whole [ inl h ↦ inl h.0 | inr h ↦ inr h.0 ]

-- its columns on a row of this width, of which there is one at least
held_first : (width : ℕ) (cells : List Cell) → 1 ≤ width → IsWhole cells → 1 ≤ length cells → first_columns (holdable width cells) ≡ min (first_columns cells) width
held_first width [] some whole more = absurd (omega arith)
held_first width (Tail ∷ cells) some whole more = absurd whole
held_first width (Lead text columns attrs ∷ cells) some whole more =
    first_columns-holdable width text columns attrs cells some (lead_of_whole text columns attrs cells whole)

some_columns : (cells : List Cell) → IsWhole cells → 1 ≤ length cells → 1 ≤ first_columns cells
some_columns [] whole more = absurd (omega arith)
some_columns (Tail ∷ cells) whole more = absurd whole
some_columns (Lead text columns attrs ∷ cells) whole more = elim whole [ inl h ↦ omega (arith, h.0) | inr h ↦ omega (arith, h.0) ]

-- ---- the first row of the line, and the rows of the cells behind it

-- the line is a front and a back that begins with the next character
parted : (width : ℕ) (front back rest : List Cell) → 1 ≤ width → IsWhole front → IsWhole back → 1 ≤ length back → length (holdable width front) ≤ width → width < length (holdable width front) + first_columns (holdable width back) → rows_of width (front ++ (back ++ rest)) ≡ holdable width front ∷ rows_of width (back ++ rest)
parted width front [] rest some whole behind more fits full = absurd (omega arith)
parted width front (Tail ∷ back) rest some whole behind more fits full = absurd behind
parted width front (Lead text columns attrs ∷ back) rest some whole behind more fits full =
    let lead = lead_of_whole text columns attrs back behind in
    rows_of-cut width front text columns attrs (back ++ rest) some whole lead fits (omega (arith, first_columns-holdable width text columns attrs back some lead))

pub first_then : (width count : ℕ) (cells rest : List Cell) → 1 ≤ width → IsFirstRow width cells count → count < length cells → rows_of width (cells ++ rest) ≡ holdable width (take count cells) ∷ rows_of width (drop count cells ++ rest)
first_then width count cells rest some first more =
    ap (λ (all : List Cell). rows_of width (all ++ rest)) (sym (take-append-drop count cells))
    ∙ ap (rows_of width) (append_assoc (take count cells) (drop count cells) rest)
    ∙ parted width (take count cells) (drop count cells) rest some first.front first.back (omega (arith, length-drop count cells)) first.fits (first.full more)

pub first_of_more : (width count : ℕ) (cells : List Cell) → 1 ≤ width → IsFirstRow width cells count → count < length cells → rows_of width cells ≡ holdable width (take count cells) ∷ rows_of width (drop count cells)
first_of_more width count cells some first more =
    ap (rows_of width) (sym (append-nil cells)) ∙ first_then width count cells [] some first more
    ∙ ap (λ (back : List Cell). holdable width (take count cells) ∷ rows_of width back) (append-nil (drop count cells))

pub only_row : (width count : ℕ) (cells : List Cell) → 1 ≤ width → IsFirstRow width cells count → length cells ≤ count → rows_of width cells ≡ holdable width (take count cells) ∷ []
only_row width count cells some first all =
    ap (rows_of width) (sym (take_all count cells all)) ∙ rows_of-fits width (take count cells) some first.front first.fits

-- where more cells follow, the row is not empty
pub some_in_first : (width count : ℕ) (cells : List Cell) → 1 ≤ width → IsFirstRow width cells count → count < length cells → 1 ≤ count
some_in_first width zero cells some first more =
    let full : width < length (holdable width []) + first_columns (holdable width cells) = first.full more in
    let none : length (holdable width []) ≡ 0 = elim (one_or_more width some) [
      | inl e ↦ subst (λ (n : ℕ). length (holdable n []) ≡ 0) e refl
      | inr wide ↦ ap length (holdable-wide width [] wide)
    ] in
    absurd (omega (arith, held_first width cells some first.back more))
some_in_first width (suc count) cells some first more = omega arith

-- the walk that leaves the first row behind it
pub record IsNext (width : ℕ) (cells behind : List Cell) : Type 0 where
  pub shorter : length behind < length cells
  pub whole : IsWhole behind
  pub rows : (rest : List Cell) → length (rows_of width (cells ++ rest)) ≡ suc (length (rows_of width (behind ++ rest)))

pub next_of : (width count : ℕ) (cells behind : List Cell) → 1 ≤ width → IsFirstRow width cells count → count < length cells → behind ≡ drop count cells → IsNext width cells behind
next_of width count cells behind some first more is = record {
  shorter = omega (arith, some_in_first width count cells some first more, ap length is, length-drop count cells);
  whole = subst (λ (back : List Cell). IsWhole back) (sym is) first.back;
  rows = λ rest. ap length (first_then width count cells rest some first more) ∙ ap (λ (back : List Cell). suc (length (rows_of width (back ++ rest)))) (sym is);
}

-- ---- the rows up to a cell

-- a cell of the first row
pub rows_to-first : (width count cell : ℕ) (cells : List Cell) → 1 ≤ width → IsFirstRow width cells count → cell < count → rows_to width cells cell ≡ holdable width (take (cell + 1) cells) ∷ []
rows_to-first width count cell cells some first here =
    let short : take (cell + 1) (take count cells) ≡ take (cell + 1) cells = take-take (cell + 1) count cells (omega arith) in
    ap (rows_of width) (sym short)
    ∙ rows_of-take width (cell + 1) (take count cells) some first.front first.fits
    ∙ ap (λ (front : List Cell). holdable width front ∷ []) short

-- a cell behind it
parted_to : (width cell : ℕ) (front back : List Cell) → 1 ≤ width → IsWhole front → IsWhole back → 1 ≤ length back → length (holdable width front) ≤ width → width < length (holdable width front) + first_columns (holdable width back) → rows_of width (front ++ take (suc cell) back) ≡ holdable width front ∷ rows_of width (take (suc cell) back)
parted_to width cell front [] some whole behind more fits full = absurd (omega arith)
parted_to width cell front (Tail ∷ back) some whole behind more fits full = absurd behind
parted_to width cell front (Lead text columns attrs ∷ back) some whole behind more fits full =
    let lead = lead_of_whole text columns attrs back behind in
    rows_of-cut width front text columns attrs (take cell back) some whole lead fits (omega (arith, first_columns-holdable width text columns attrs back some lead))

pub rows_to-behind : (width count cell : ℕ) (cells : List Cell) → 1 ≤ width → IsFirstRow width cells count → count ≤ cell → cell < length cells → rows_to width cells cell ≡ holdable width (take count cells) ∷ rows_to width (drop count cells) (cell - count)
rows_to-behind width count cell cells some first behind within =
    let more : count < length cells = omega arith in
    let place : cell + 1 ≡ count + suc (cell - count) = omega arith in
    let next : suc (cell - count) ≡ cell - count + 1 = omega arith in
    ap (λ (k : ℕ). rows_of width (take k cells)) place
    ∙ ap (rows_of width) (take-add count (suc (cell - count)) cells)
    ∙ parted_to width (cell - count) (take count cells) (drop count cells) some first.front first.back (omega (arith, length-drop count cells)) first.fits (first.full more)
    ∙ ap (λ (k : ℕ). holdable width (take count cells) ∷ rows_of width (take k (drop count cells))) next

-- ---- how it is found

pub length-holdable : (width : ℕ) (cells : List Cell) → 1 ≤ width → length (holdable width cells) ≤ length cells
length-holdable width cells some =
    elim (one_or_more width some) [
      | inl e ↦ subst (λ (n : ℕ). length (holdable n cells) ≤ length cells) e (few cells)
      | inr wide ↦ omega (arith, ap length (holdable-wide width cells wide))
    ]
  where
    few : (cells : List Cell) → length (flat_map narrowed_cell cells) ≤ length cells
    few [] = omega arith
    few (Lead text columns attrs ∷ cells) = omega (arith, few cells)
    few (Tail ∷ cells) = omega (arith, few cells)

-- whole cells part before each Lead
pub whole_parts : (after : Bool) (k : ℕ) (cells : List Cell) (d : Cell) → IsWholeAfter after cells → k < length cells → get_or cells k d ≢ Tail → IsWholeAfter after (take k cells) × IsWhole (drop k cells)
whole_parts after k [] d whole within lead = absurd (omega arith)
whole_parts false zero (cell ∷ cells) d whole within lead = (tt, whole)
whole_parts true zero (Tail ∷ cells) d whole within lead = absurd (lead refl)
whole_parts true zero (Lead text columns attrs ∷ cells) d whole within lead = absurd whole
whole_parts false (suc k) (Tail ∷ cells) d whole within lead = absurd whole
whole_parts true (suc k) (Lead text columns attrs ∷ cells) d whole within lead = absurd whole
whole_parts true (suc k) (Tail ∷ cells) d whole within lead = whole_parts false k cells d whole (omega arith) lead
whole_parts false (suc k) (Lead text columns attrs ∷ cells) d whole within lead =
    elim whole [
      | inl h ↦ let parts = whole_parts false k cells d h.1 (omega arith) lead in (inl (h.0, parts.0), parts.1)
      | inr h ↦ let parts = whole_parts true k cells d h.1 (omega arith) lead in (inr (h.0, parts.0), parts.1)
    ]

-- before a Tail stands a Lead of two columns
pub wide_before : (after : Bool) (k : ℕ) (cells : List Cell) (d : Cell) → IsWholeAfter after cells → suc k < length cells → get_or cells (suc k) d ≡ Tail → first_columns (drop k cells) ≡ 2
wide_before after k [] d whole within tail = absurd (omega arith)
wide_before after k (cell ∷ []) d whole within tail = absurd (omega arith)
wide_before false k (Tail ∷ next ∷ cells) d whole within tail = absurd whole
wide_before true k (Lead text columns attrs ∷ next ∷ cells) d whole within tail = absurd whole
wide_before false zero (Lead text columns attrs ∷ Lead other width more ∷ cells) d whole within tail = cc
wide_before false zero (Lead text columns attrs ∷ Tail ∷ cells) d whole within tail = elim whole [ inl h ↦ absurd h.1 | inr h ↦ h.0 ]
wide_before true zero (Tail ∷ Lead text columns attrs ∷ cells) d whole within tail = cc
wide_before true zero (Tail ∷ Tail ∷ cells) d whole within tail = absurd whole
wide_before true (suc k) (Tail ∷ next ∷ cells) d whole within tail = wide_before false k (next ∷ cells) d whole (omega arith) tail
wide_before false (suc k) (Lead text columns attrs ∷ next ∷ cells) d whole within tail =
    elim whole [
      | inl h ↦ wide_before false k (next ∷ cells) d h.1 (omega arith) tail
      | inr h ↦ wide_before true k (next ∷ cells) d h.1 (omega arith) tail
    ]

lead_at : (k : ℕ) (cells : List Cell) (d : Cell) → 1 ≤ first_columns (drop k cells) → k < length cells → get_or cells k d ≢ Tail
lead_at k [] d some within tail = omega arith
lead_at zero (Lead text columns attrs ∷ cells) d some within tail = cc
lead_at zero (Tail ∷ cells) d some within tail = omega arith
lead_at (suc k) (cell ∷ cells) d some within tail = lead_at k cells d some (omega arith) tail

pub all_in_first : (width : ℕ) (cells : List Cell) → 1 ≤ width → IsWhole cells → length cells ≤ width → IsFirstRow width cells (length cells)
all_in_first width cells some whole fits =
    let all : take (length cells) cells ≡ cells = take_all (length cells) cells (omega arith) in
    record {
      within = omega arith;
      front = subst (λ (front : List Cell). IsWhole front) (sym all) whole;
      back = subst (λ (back : List Cell). IsWhole back) (sym (drop_all (length cells) cells (omega arith))) tt;
      fits = omega (arith, length-holdable width cells some, ap (λ (front : List Cell). length (holdable width front)) all);
      full = λ more. absurd (omega arith);
    }

wide_first : (width count : ℕ) (cells : List Cell) → 2 ≤ width → count < length cells → count ≤ width → IsWhole (take count cells) × IsWhole (drop count cells) → width < count + first_columns (drop count cells) → IsFirstRow width cells count
wide_first width count cells wide more fits parts full =
    let long : length (holdable width (take count cells)) ≡ count = ap length (holdable-wide width (take count cells) wide) ∙ length-take-le count cells (omega arith) in
    record {
      within = omega arith;
      front = parts.0;
      back = parts.1;
      fits = omega (arith, long);
      full = λ _. omega (arith, long, ap first_columns (holdable-wide width (drop count cells) wide));
    }

one_first : (count : ℕ) (cells : List Cell) → count < length cells → IsWhole (take count cells) × IsWhole (drop count cells) → length (holdable 1 (take count cells)) ≡ 1 → IsFirstRow 1 cells count
one_first count cells more parts long = record {
  within = omega arith;
  front = parts.0;
  back = parts.1;
  fits = omega (arith, long);
  full = λ _. omega (
    arith,
    long,
    held_first 1 (drop count cells) (omega arith) parts.1 (omega (arith, length-drop count cells)),
    some_columns (drop count cells) parts.1 (omega (arith, length-drop count cells)),
  );
}

narrow_at : (cells : List Cell) → IsWhole cells → 1 ≤ length cells → length (holdable 1 (take 1 cells)) ≡ 1
narrow_at [] whole some = absurd (omega arith)
narrow_at (Tail ∷ cells) whole some = absurd whole
narrow_at (Lead text columns attrs ∷ cells) whole some = refl

-- no Tail stands behind a row that is full
pub first_at : (width : ℕ) (cells : List Cell) (d : Cell) → 1 ≤ width → IsWhole cells → width < length cells → get_or cells width d ≢ Tail → IsFirstRow width cells width
first_at width cells d some whole more lead =
    let parts = whole_parts false width cells d whole more lead in
    elim (one_or_more width some) [
      | inl e ↦
          subst (λ (n : ℕ). n < length cells → IsWhole (take n cells) × IsWhole (drop n cells) → IsFirstRow n cells n) e
          (λ one_more one_parts. one_first 1 cells one_more one_parts (narrow_at cells whole (omega arith))) more parts
      | inr wide ↦ wide_first width width cells wide more (omega arith) parts (omega (arith, some_columns (drop width cells) parts.1 (omega (arith, length-drop width cells))))
    ]

-- a Tail stands there, and the row ends before its Lead
pub first_before : (width : ℕ) (cells : List Cell) (d : Cell) → 2 ≤ width → IsWhole cells → width < length cells → get_or cells width d ≡ Tail → IsFirstRow width cells (width - 1)
first_before zero cells d wide whole more tail = absurd (omega arith)
first_before (suc width) cells d wide whole more tail =
    let count : suc width - 1 ≡ width = omega arith in
    let two : first_columns (drop width cells) ≡ 2 = wide_before false width cells d whole more tail in
    let parts = whole_parts false width cells d whole (omega arith) (lead_at width cells d (omega (arith, two)) (omega arith)) in
    subst (IsFirstRow (suc width) cells) (sym count) (wide_first (suc width) width cells wide (omega arith) (omega arith) parts (omega (arith, two)))

-- on a row of one column stands a wide character with its Tail gone
pub first_of_two : (cells : List Cell) (d : Cell) → IsWhole cells → 1 < length cells → get_or cells 1 d ≡ Tail → IsFirstRow 1 cells 2
first_of_two [] d whole more tail = absurd (omega arith)
first_of_two (cell ∷ []) d whole more tail = absurd (omega arith)
first_of_two (Tail ∷ next ∷ cells) d whole more tail = absurd whole
first_of_two (Lead text columns attrs ∷ Lead other width others ∷ cells) d whole more tail = cc
first_of_two (Lead text columns attrs ∷ Tail ∷ cells) d whole more tail =
    elim whole [
      | inl h ↦ absurd h.1
      | inr h ↦ record {
        within = omega arith;
        front = inr (h.0, tt);
        back = h.1;
        fits = omega arith;
        full = λ behind. omega (arith, held_first 1 cells (omega arith) h.1 (omega arith), some_columns cells h.1 (omega arith));
      }
    ]

-- ---- rows passed one by one

pub pass_row : (width count : ℕ) (cells row behind : List Cell) (before : List (List Cell)) → 1 ≤ width → IsFirstRow width cells count → count < length cells → row ≡ take count cells → behind ≡ drop count cells → (before ++ holdable width row ∷ []) ++ rows_of width behind ≡ before ++ rows_of width cells
pass_row width count cells row behind before some first more front back =
    append_assoc before (holdable width row ∷ []) (rows_of width behind)
    ∙ ap (λ (rows : List (List Cell)). before ++ rows)
    (ap (λ (cut : List Cell). holdable width cut ∷ rows_of width behind) front
    ∙ ap (λ (rest : List Cell). holdable width (take count cells) ∷ rows_of width rest) back
    ∙ sym (first_of_more width count cells some first more))

pub pass_last : (width count : ℕ) (cells : List Cell) → 1 ≤ width → IsFirstRow width cells count → length cells ≤ count → rows_of width cells ≡ holdable width cells ∷ []
pass_last width count cells some first all = only_row width count cells some first all ∙ ap (λ (row : List Cell). holdable width row ∷ []) (take_all count cells all)
