-- Cells as the rows of a width hold them, and where the rows of a line part.
use Prim.Native.Nat.{zero, suc}
use Rattle.std.proofs.Common.{◌≡◌, ◌≢◌, ℕ, ◌+◌, ◌≤◌, ◌<◌, ◌⊎◌, min, if◌then◌else◌, nat_eq, inl, inr, Bool, true, false, List, [], ◌∷◌, ◌++◌, length, take, drop, refl, sym, ap, ◌∙◌, subst, arith, length-append, take-append-drop}
use Rattle.std.specs.List.{flat_map}
use Rattle.std.proofs.lemmas.Bool.{ne_eqb}
use Rattle.std.proofs.lemmas.List.{take_all}
use Rattle.std.proofs.lemmas.List.Concat.{flat_map-append}
use Rattle.cell_grid.specs.declared.attrs.Attrs.{Attrs}
use Rattle.cell_grid.specs.declared.cell.Cell.{Cell}
use Rattle.cell_grid.specs.declared.cell.Cell.TheVariants.{Lead, Tail}
use Rattle.cell_grid.specs.Cell.{IsLead, narrow}
use Rattle.cell_grid.specs.Row.{IsWholeAfter, IsWhole}
use Rattle.win_view.specs.FirstRow.{first_columns}
use Rattle.win_view.specs.Rows.{narrowed_cell, holdable, flowed, rows_of}
use Rattle.win_view.proofs.Flows.{flowed-take, flowed-cut}

-- ---- one column and more

pub one_or_more : (width : ℕ) → 1 ≤ width → (1 ≡ width) ⊎ (2 ≤ width)
one_or_more zero some = absurd (omega arith)
one_or_more (suc zero) some = inl refl
one_or_more (suc (suc width)) some = inr (omega arith)

pub holdable-wide : (width : ℕ) (cells : List Cell) → 2 ≤ width → holdable width cells ≡ cells
holdable-wide width cells wide = let more : width ≢ 1 = λ e. omega (arith, e) in rw (ne_eqb width 1 more) refl

pub rows_of-wide : (width : ℕ) (cells : List Cell) → 2 ≤ width → rows_of width cells ≡ flowed width width cells
rows_of-wide width cells wide = ap (flowed width width) (holdable-wide width cells wide)

holdable-if : (one : Bool) (front back : List Cell) → (if one then flat_map narrowed_cell (front ++ back) else front ++ back) ≡ (if one then flat_map narrowed_cell front else front) ++ (if one then flat_map narrowed_cell back else back)
holdable-if true front back = flat_map-append narrowed_cell front back
holdable-if false front back = refl

pub holdable-append : (width : ℕ) (front back : List Cell) → holdable width (front ++ back) ≡ holdable width front ++ holdable width back
holdable-append width front back = holdable-if (nat_eq width 1) front back

-- ---- a Lead on a row of one column

pub record IsNarrowed (text : List ℕ) (columns : ℕ) (attrs : Attrs) (cell : Cell) : Type 0 where
  pub characters : List ℕ
  pub is : cell ≡ Lead characters 1 attrs

narrowed : (text : List ℕ) (columns : ℕ) (attrs : Attrs) → IsLead (Lead text columns attrs) → IsNarrowed text columns attrs (if nat_eq columns 2 then narrow 65533 attrs else Lead text columns attrs)
narrowed text columns attrs lead =
    elim lead [
      | inl e ↦ record { characters = text; is = rw e refl }
      | inr e ↦ record { characters = 65533 ∷ []; is = rw e refl }
    ]

-- a front of whole cells is whole there, as the Tails are gone
pub whole-narrowed : (after : Bool) (k : ℕ) (cells : List Cell) → IsWholeAfter after cells → IsWhole (holdable 1 (take k cells))
whole-narrowed after zero cells whole = tt
whole-narrowed after (suc k) [] whole = tt
whole-narrowed false (suc k) (Tail ∷ cells) whole = absurd whole
whole-narrowed true (suc k) (Lead text columns attrs ∷ cells) whole = absurd whole
whole-narrowed true (suc k) (Tail ∷ cells) whole = whole-narrowed false k cells whole
whole-narrowed false (suc k) (Lead text columns attrs ∷ cells) whole =
    elim whole [
      | inl h ↦ rw h.0 (inl (refl, whole-narrowed false k cells h.1))
      | inr h ↦ rw h.0 (inl (refl, whole-narrowed true k cells h.1))
    ]

pub whole-holdable : (width : ℕ) (cells : List Cell) → 1 ≤ width → IsWhole cells → IsWhole (holdable width cells)
whole-holdable width cells some whole =
    elim (one_or_more width some) [
      | inl e ↦ subst (λ (n : ℕ). IsWhole (holdable n cells)) e (subst (λ (front : List Cell). IsWhole (holdable 1 front)) (take_all (length cells) cells (omega arith)) (whole-narrowed false (length cells) cells whole))
      | inr wide ↦ subst (λ (held : List Cell). IsWhole held) (sym (holdable-wide width cells wide)) whole
    ]

-- ---- the first character

pub first_columns-holdable : (width : ℕ) (text : List ℕ) (columns : ℕ) (attrs : Attrs) (cells : List Cell) → 1 ≤ width → IsLead (Lead text columns attrs) → first_columns (holdable width (Lead text columns attrs ∷ cells)) ≡ min columns width
first_columns-holdable width text columns attrs cells some lead =
    elim (one_or_more width some) [
      | inl e ↦ subst (λ (n : ℕ). first_columns (holdable n (Lead text columns attrs ∷ cells)) ≡ min columns n) e
          (let one = narrowed text columns attrs lead in
          ap (λ (cell : Cell). first_columns (cell ∷ flat_map narrowed_cell cells)) one.is ∙ elim lead [ inl c ↦ omega (arith, c) | inr c ↦ omega (arith, c) ])
      | inr wide ↦ ap first_columns (holdable-wide width (Lead text columns attrs ∷ cells) wide) ∙ elim lead [ inl c ↦ omega (arith, c) | inr c ↦ omega (arith, c) ]
    ]

-- ---- where a row ends

abbrev IsCut : ℕ → List Cell → Cell → List Cell → Type 0
IsCut width front lead rest = rows_of width (front ++ lead ∷ rest) ≡ holdable width front ∷ rows_of width (lead ∷ rest)

cut_wide : (width : ℕ) (front : List Cell) (text : List ℕ) (columns : ℕ) (attrs : Attrs) (rest : List Cell) → 2 ≤ width → IsWhole front → IsLead (Lead text columns attrs) → length front ≤ width → width < length front + min columns width → IsCut width front (Lead text columns attrs) rest
cut_wide width front text columns attrs rest wide whole lead fits full =
    let few : columns ≤ 2 = elim lead [ inl c ↦ omega (arith, c) | inr c ↦ omega (arith, c) ] in
    rows_of-wide width (front ++ Lead text columns attrs ∷ rest) wide
    ∙ flowed-cut width front text columns attrs rest whole fits (omega arith) (omega arith)
    ∙ ap (λ (rows : List (List Cell)). front ∷ rows) (sym (rows_of-wide width (Lead text columns attrs ∷ rest) wide))
    ∙ ap (λ (row : List Cell). row ∷ rows_of width (Lead text columns attrs ∷ rest)) (sym (holdable-wide width front wide))

cut_narrow : (front : List Cell) (text : List ℕ) (columns : ℕ) (attrs : Attrs) (rest : List Cell) → IsWhole front → IsLead (Lead text columns attrs) → length (holdable 1 front) ≤ 1 → 1 < length (holdable 1 front) + min columns 1 → IsCut 1 front (Lead text columns attrs) rest
cut_narrow front text columns attrs rest whole lead fits full =
    let one = narrowed text columns attrs lead in
    let held : IsWhole (holdable 1 front) = whole-holdable 1 front (omega arith) whole in
    let cut = flowed-cut 1 (holdable 1 front) one.characters 1 attrs (flat_map narrowed_cell rest) held fits (omega arith) (omega arith) in
    ap (flowed 1 1) (flat_map-append narrowed_cell front (Lead text columns attrs ∷ rest))
    ∙ subst (λ (cell : Cell). flowed 1 1 (holdable 1 front ++ cell ∷ flat_map narrowed_cell rest) ≡ holdable 1 front ∷ flowed 1 1 (cell ∷ flat_map narrowed_cell rest)) (sym one.is) cut

-- whole cells that fit and a character behind them that does not
pub rows_of-cut : (width : ℕ) (front : List Cell) (text : List ℕ) (columns : ℕ) (attrs : Attrs) (rest : List Cell) → 1 ≤ width → IsWhole front → IsLead (Lead text columns attrs) → length (holdable width front) ≤ width → width < length (holdable width front) + min columns width → IsCut width front (Lead text columns attrs) rest
rows_of-cut width front text columns attrs rest some whole lead fits full =
    elim (one_or_more width some) [
      | inl e ↦
          subst (λ (n : ℕ). length (holdable n front) ≤ n → n < length (holdable n front) + min columns n → IsCut n front (Lead text columns attrs) rest) e
          (λ narrow_fits narrow_full. cut_narrow front text columns attrs rest whole lead narrow_fits narrow_full) fits full
      | inr wide ↦
          let same : holdable width front ≡ front = holdable-wide width front wide in
          cut_wide width front text columns attrs rest wide whole lead (omega (arith, ap length same)) (omega (arith, ap length same))
    ]

-- ---- one row

pub length-holdable-take : (width k : ℕ) (cells : List Cell) → length (holdable width (take k cells)) ≤ length (holdable width cells)
length-holdable-take width k cells =
    omega (
      arith,
      ap (λ (all : List Cell). length (holdable width all)) (take-append-drop k cells),
      ap length (holdable-append width (take k cells) (drop k cells)),
      length-append (holdable width (take k cells)) (holdable width (drop k cells)),
    )

one_narrow : (k : ℕ) (cells : List Cell) → IsWhole cells → length (holdable 1 cells) ≤ 1 → rows_of 1 (take k cells) ≡ holdable 1 (take k cells) ∷ []
one_narrow k cells whole fits =
    let held = holdable 1 (take k cells) in
    let all : take (length held) held ≡ held = take_all (length held) held (omega arith) in
    let short : length held ≤ 1 + 0 = omega (arith, length-holdable-take 1 k cells) in
    ap (flowed 1 1) (sym all) ∙ flowed-take false 1 1 (length held) held (whole-narrowed false k cells whole) short ∙ ap (λ (row : List Cell). row ∷ []) all

-- a front of whole cells that fit is one row
pub rows_of-take : (width k : ℕ) (cells : List Cell) → 1 ≤ width → IsWhole cells → length (holdable width cells) ≤ width → rows_of width (take k cells) ≡ holdable width (take k cells) ∷ []
rows_of-take width k cells some whole fits =
    elim (one_or_more width some) [
      | inl e ↦
          subst (λ (n : ℕ). length (holdable n cells) ≤ n → rows_of n (take k cells) ≡ holdable n (take k cells) ∷ []) e
          (λ narrow_fits. one_narrow k cells whole narrow_fits) fits
      | inr wide ↦
          rows_of-wide width (take k cells) wide
          ∙ flowed-take false width width k cells whole (omega (arith, ap length (holdable-wide width cells wide)))
          ∙ ap (λ (row : List Cell). row ∷ []) (sym (holdable-wide width (take k cells) wide))
    ]

pub rows_of-fits : (width : ℕ) (cells : List Cell) → 1 ≤ width → IsWhole cells → length (holdable width cells) ≤ width → rows_of width cells ≡ holdable width cells ∷ []
rows_of-fits width cells some whole fits =
    subst (λ (front : List Cell). rows_of width front ≡ holdable width front ∷ []) (take_all (length cells) cells (omega arith))
    (rows_of-take width (length cells) cells some whole fits)
