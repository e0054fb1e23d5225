-- How a pen is styled number by number.
use Rattle.std.proofs.Common.{◌≡◌, ℕ, zero, suc, List, [], ◌∷◌, drop, Some, None, refl, ap, ◌∙◌}
use Rattle.cell_grid.specs.declared.attrs.Attrs.{Attrs}
use Rattle.cell_grid.specs.declared.attrs.Colour.{Colour}
use Rattle.term_model.specs.Rendition.{styled, styled_past, styled_by, styled_once, colour_behind, taken_by}

-- to pass over numbers is to leave them out
styled_past-drop : (skipped : ℕ) (pen : Attrs) (numbers : List ℕ) → styled_past skipped pen numbers ≡ styled pen (drop skipped numbers)
styled_past-drop zero pen numbers = refl
styled_past-drop (suc skipped) pen [] = refl
styled_past-drop (suc skipped) pen (n ∷ ns) = styled_past-drop skipped pen ns

pub styled-once : (pen : Attrs) (n : ℕ) (ns : List ℕ) → colour_behind n ns ≡ None → styled pen (n ∷ ns) ≡ styled (styled_once pen n) ns
styled-once pen n ns is = ap (λ colour. styled_past (taken_by colour) (styled_by pen n colour) ns) is

pub styled-coloured : (pen : Attrs) (n : ℕ) (ns : List ℕ) (colour : Colour) → colour_behind n ns ≡ Some colour
    → styled pen (n ∷ ns) ≡ styled (styled_by pen n (Some colour)) (drop 4 ns)
styled-coloured pen n ns colour is =
    ap (λ found. styled_past (taken_by found) (styled_by pen n found) ns) is ∙ styled_past-drop 4 (styled_by pen n (Some colour)) ns
