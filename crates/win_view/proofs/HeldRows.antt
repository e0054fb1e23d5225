-- Cells pushed one by one as a width can hold them.
use Prim.Native.Nat.{zero, suc}
use Rattle.std.proofs.Common.{◌≡◌, ◌≢◌, ℕ, ◌≤◌, ◌<◌, nat_eq, inl, inr, Bool, true, false, List, [], ◌∷◌, length, get_or, refl, sym, ap, ◌∙◌, subst, arith}
use Rattle.std.specs.List.{flat_map}
use Rattle.std.proofs.lemmas.Bool.{ne_eqb}
use Rattle.cell_grid.specs.declared.cell.Cell.{Cell}
use Rattle.cell_grid.specs.declared.cell.Cell.TheVariants.{Lead, Tail}
use Rattle.cell_grid.specs.Cell.{IsLead, spread}
use Rattle.cell_grid.specs.Row.{IsWholeAfter, IsWhole}
use Rattle.win_view.specs.Rows.{narrowed_cell, holdable}
use Rattle.win_view.proofs.Holds.{one_or_more, holdable-wide}
use Rattle.win_view.proofs.FirstRows.{lead_of_whole}

-- the places of a character; a Tail has its Lead's
abbrev pub places_of : Cell → List Cell
places_of (Lead text columns attrs) = spread (Lead text columns attrs)
places_of Tail = []

abbrev pub pushed_by : Bool → Cell → List Cell
pushed_by true cell = narrowed_cell cell
pushed_by false cell = places_of cell

-- the places that the width can hold
abbrev pub pushed_cell : ℕ → Cell → List Cell
pushed_cell width cell = pushed_by (nat_eq width 1) cell

abbrev IsRejoined : Bool → List Cell → Type 0
IsRejoined true cells = Tail ∷ flat_map places_of cells ≡ cells
IsRejoined false cells = flat_map places_of cells ≡ cells

rejoined : (after : Bool) (cells : List Cell) → IsWholeAfter after cells → IsRejoined after cells
rejoined false [] whole = refl
rejoined true [] whole = absurd whole
rejoined false (Tail ∷ cells) whole = absurd whole
rejoined true (Tail ∷ cells) whole = ap (λ (rest : List Cell). Tail ∷ rest) (rejoined false cells whole)
rejoined true (Lead text columns attrs ∷ cells) whole = absurd whole
rejoined false (Lead text columns attrs ∷ cells) whole =
    elim whole [
      | inl h ↦ rw h.0 (ap (λ (rest : List Cell). Lead text 1 attrs ∷ rest) (rejoined false cells h.1))
      | inr h ↦ rw h.0 (ap (λ (rest : List Cell). Lead text 2 attrs ∷ rest) (rejoined true cells h.1))
    ]

pub pushed_all : (width : ℕ) (cells : List Cell) → 1 ≤ width → IsWhole cells → flat_map (pushed_cell width) cells ≡ holdable width cells
pushed_all width cells some whole =
    elim (one_or_more width some) [
      | inl e ↦ subst (λ (n : ℕ). flat_map (pushed_cell n) cells ≡ holdable n cells) e refl
      | inr wide ↦
          let more : width ≢ 1 = λ e. omega (arith, e) in
          ap (λ (one : Bool). flat_map (pushed_by one) cells) (ne_eqb width 1 more) ∙ rejoined false cells whole ∙ sym (holdable-wide width cells wide)
    ]

-- each Lead among whole cells has one column or two
lead_item_after : (after : Bool) (i : ℕ) (cells : List Cell) (d : Cell) → IsWholeAfter after cells → i < length cells → get_or cells i d ≢ Tail → IsLead (get_or cells i d)
lead_item_after after i [] d whole within lead = absurd (omega arith)
lead_item_after false zero (Lead text columns attrs ∷ cells) d whole within lead = lead_of_whole text columns attrs cells whole
lead_item_after true zero (Lead text columns attrs ∷ cells) d whole within lead = absurd whole
lead_item_after after zero (Tail ∷ cells) d whole within lead = absurd (lead refl)
lead_item_after true (suc i) (Lead text columns attrs ∷ cells) d whole within lead = absurd whole
lead_item_after false (suc i) (Tail ∷ cells) d whole within lead = absurd whole
lead_item_after true (suc i) (Tail ∷ cells) d whole within lead = lead_item_after false i cells d whole (omega arith) lead
lead_item_after false (suc i) (Lead text columns attrs ∷ cells) d whole within lead =
    elim whole [
      | inl h ↦ lead_item_after false i cells d h.1 (omega arith) lead
      | inr h ↦ lead_item_after true i cells d h.1 (omega arith) lead
    ]

pub lead_item : (i : ℕ) (cells : List Cell) (cell : Cell) → IsWhole cells → i < length cells → cell ≡ get_or cells i cell → cell ≢ Tail → IsLead cell
lead_item i cells cell whole within is lead =
    subst IsLead (sym is) (lead_item_after false i cells cell whole within (λ tail. lead (is ∙ tail)))
