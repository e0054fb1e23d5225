-- The last Lead of a row, and a character that is joined to it.
use Prim.Native.Nat.{zero, suc}
use Rattle.std.proofs.Common.{◌≡◌, ◌≢◌, ℕ, ◌+◌, ◌-◌, ◌<◌, if◌then◌else◌, inl, inr, Bool, true, false, List, [], ◌∷◌, length, get_or, set, drop, refl, sym, ap, ◌∙◌, arith}
use Rattle.std.proofs.lemmas.List.{drop_all, drop_more, get_or_default}
use Rattle.cell_grid.specs.declared.attrs.Attrs.{Attrs}
use Rattle.cell_grid.specs.declared.cell.Cell.{Cell}
use Rattle.cell_grid.specs.declared.cell.Cell.TheVariants.{Lead, Tail}
use Rattle.cell_grid.specs.CellText.{with_joined}
use Rattle.cell_grid.specs.Cell.{joined}
use Rattle.cell_grid.specs.Row.{IsWholeAfter, IsWhole}
use Rattle.cell_grid.specs.TextCells.{has_lead, joined_last}

has_lead-at : (cells : List Cell) (at : ℕ) (cell : Cell) → at < length cells → cell ≡ get_or cells at cell → cell ≢ Tail → has_lead cells ≡ true
has_lead-at [] at cell within is lead = absurd (omega arith)
has_lead-at (Lead text width attrs ∷ rest) at cell within is lead = refl
has_lead-at (Tail ∷ rest) zero cell within is lead = absurd (lead is)
has_lead-at (Tail ∷ rest) (suc at) cell within is lead = has_lead-at rest at cell (omega arith) is lead

-- joining writes the last Lead
pub joined_last-set : (cells : List Cell) (at : ℕ) (cell : Cell) (next : ℕ) → at < length cells → cell ≡ get_or cells at cell → cell ≢ Tail → has_lead (drop (suc at) cells) ≡ false → set cells at (joined cell next) ≡ joined_last cells next
joined_last-set [] at cell next within is lead alone = absurd (omega arith)
joined_last-set (Lead text width attrs ∷ rest) zero cell next within is lead alone = rw (is, alone) refl
joined_last-set (Tail ∷ rest) zero cell next within is lead alone = absurd (lead is)
joined_last-set (Lead text width attrs ∷ rest) (suc at) cell next within is lead alone =
    rw (has_lead-at rest at cell (omega arith) is lead) (ap (λ cells. Lead text width attrs ∷ cells) (joined_last-set rest at cell next (omega arith) is lead alone))
joined_last-set (Tail ∷ rest) (suc at) cell next within is lead alone =
    ap (λ cells. Tail ∷ cells) (joined_last-set rest at cell next (omega arith) is lead alone)

-- in a whole row no Tail stands first, and none behind another
pub first_is_lead : (cells : List Cell) (d : Cell) → IsWhole cells → 0 < length cells → get_or cells 0 d ≢ Tail
first_is_lead [] d h some e = omega arith
first_is_lead (Lead text width attrs ∷ rest) d h some e = cc
first_is_lead (Tail ∷ rest) d h some e = h

pub before_tail : (after : Bool) (cells : List Cell) (at : ℕ) (c d : Cell) → IsWholeAfter after cells → suc at < length cells → get_or cells (suc at) c ≡ Tail → get_or cells at d ≢ Tail
before_tail after [] at c d h within tail e = omega arith
before_tail after (first ∷ []) at c d h within tail e = omega arith
before_tail after (first ∷ Lead text width attrs ∷ rest) zero c d h within tail e = cc
before_tail after (Lead text width attrs ∷ Tail ∷ rest) zero c d h within tail e = cc
before_tail false (Tail ∷ Tail ∷ rest) zero c d h within tail e = h
before_tail true (Tail ∷ Tail ∷ rest) zero c d h within tail e = h
before_tail false (Tail ∷ next ∷ rest) (suc at) c d h within tail e = h
before_tail true (Tail ∷ next ∷ rest) (suc at) c d h within tail e = before_tail false (next ∷ rest) at c d h (omega arith) tail e
before_tail true (Lead text width attrs ∷ next ∷ rest) (suc at) c d h within tail e = h
before_tail false (Lead text width attrs ∷ next ∷ rest) (suc at) c d h within tail e =
    elim h [
      | inl p ↦ before_tail false (next ∷ rest) at c d p.1 (omega arith) tail e
      | inr p ↦ before_tail true (next ∷ rest) at c d p.1 (omega arith) tail e
    ]

-- the last cell is the Lead
pub joined_last-lead : (cells : List Cell) (last : ℕ) (cell : Cell) (next : ℕ) → suc last ≡ length cells → cell ≡ get_or cells last cell → cell ≢ Tail → set cells last (joined cell next) ≡ joined_last cells next
joined_last-lead cells last cell next e is lead =
    joined_last-set cells last cell next (omega arith) is lead (ap has_lead (drop_all (suc last) cells (omega arith)))

pub joined_last-other : (cells : List Cell) (len last : ℕ) (cell end : Cell) (next : ℕ) → len ≡ length cells → 0 < len → end ≡ get_or cells (len - 1) end → end ≢ Tail → last ≡ len - 1 → cell ≡ get_or cells last cell → set cells last (joined cell next) ≡ joined_last cells next
joined_last-other cells len last cell end next e some behind lead place is =
    joined_last-lead cells last cell next (omega arith) is
    (λ none. lead (behind ∙ ap (λ n. get_or cells n end) (sym place) ∙ get_or_default cells last end cell (omega arith) ∙ sym is ∙ none))

-- the last cell is the Tail of the Lead
before_end : (cells : List Cell) (last : ℕ) (cell behind_it : Cell) (next : ℕ) → IsWhole cells → suc (suc last) ≡ length cells → behind_it ≡ get_or cells (suc last) behind_it → behind_it ≡ Tail → cell ≡ get_or cells last cell → set cells last (joined cell next) ≡ joined_last cells next
before_end cells last cell behind_it next h e behind is_tail is =
    let end : drop (suc last) cells ≡ Tail ∷ [] =
    drop_more cells (suc last) behind_it (omega arith) ∙ ap (λ rest. get_or cells (suc last) behind_it ∷ rest) (drop_all (suc last + 1) cells (omega arith))
    ∙ ap (λ c. c ∷ []) (sym behind ∙ is_tail)
    in
    joined_last-set cells last cell next (omega arith) is
    (λ none. before_tail false cells last behind_it cell h (omega arith) (sym behind ∙ is_tail) (sym is ∙ none))
    (ap has_lead end)

pub joined_last-tail : (cells : List Cell) (len last : ℕ) (cell behind_it : Cell) (next : ℕ) → IsWhole cells → len ≡ length cells → 0 < len → behind_it ≡ get_or cells (len - 1) behind_it → behind_it ≡ Tail → last ≡ len - 2 → cell ≡ get_or cells last cell → set cells last (joined cell next) ≡ joined_last cells next
joined_last-tail [] len last cell behind_it next h e some behind is_tail place is = absurd (omega arith)
joined_last-tail (first ∷ []) len last cell behind_it next h e some behind is_tail place is =
    let only : len - 1 ≡ 0 = omega arith in
    absurd (first_is_lead (first ∷ []) behind_it h (omega arith) (sym (rw only at behind) ∙ is_tail))
joined_last-tail (first ∷ second ∷ rest) len last cell behind_it next h e some behind is_tail place is =
    let end : len - 1 ≡ suc last = omega arith in
    before_end (first ∷ second ∷ rest) last cell behind_it next h (omega arith) (rw end at behind) is_tail is

-- joining keeps a row whole
kept : (behind : Bool) (text others : List ℕ) (width : ℕ) (attrs : Attrs) (rest new : List Cell) → (IsWholeAfter false rest → IsWholeAfter false new) → (IsWholeAfter true rest → IsWholeAfter true new) → IsWholeAfter false (Lead text width attrs ∷ rest) → IsWholeAfter false (if behind then Lead text width attrs ∷ new else Lead others width attrs ∷ rest)
kept false text others width attrs rest new narrow wide h = h
kept true text others width attrs rest new narrow wide h = elim h [ inl p ↦ inl (p.0, narrow p.1) | inr p ↦ inr (p.0, wide p.1) ]

pub whole-joined_last : (after : Bool) (cells : List Cell) (next : ℕ) → IsWholeAfter after cells → IsWholeAfter after (joined_last cells next)
whole-joined_last false [] next h = h
whole-joined_last true [] next h = h
whole-joined_last false (Tail ∷ rest) next h = absurd h
whole-joined_last true (Tail ∷ rest) next h = whole-joined_last false rest next h
whole-joined_last true (Lead text width attrs ∷ rest) next h = absurd h
whole-joined_last false (Lead text width attrs ∷ rest) next h =
    kept (has_lead rest) text (with_joined text next) width attrs rest (joined_last rest next)
    (whole-joined_last false rest next) (whole-joined_last true rest next) h
