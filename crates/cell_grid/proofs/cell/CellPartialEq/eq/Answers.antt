use Rattle.std.proofs.Common.{◌≡◌, ℕ, Bool, true, false, List, sym, ◌∙◌}
use Rattle.std.specs.Str.{bytes_eq}
use Rattle.std.proofs.lemmas.Bool.Decides.{Decides-eqb}
use Rattle.cell_grid.specs.declared.attrs.Attrs.{Attrs}
use Rattle.cell_grid.specs.declared.cell.Cell.TheVariants.{Lead}
use Rattle.cell_grid.specs.Attrs.{same_attrs}
use Rattle.cell_grid.specs.Cell.{same_cell}
use Rattle.cell_grid.proofs.cell.CellPartialEq.eq.Goals as goal

same_attributes : (text others : List ℕ) (width wide : ℕ) (attrs more : Attrs) (attrs_test text_test : Bool) → width ≡ wide → attrs_test ≡ same_attrs attrs more → attrs_test ≡ true → text_test ≡ bytes_eq text others → text_test ≡ same_cell (Lead text width attrs) (Lead others wide more)
same_attributes text others width wide attrs more attrs_test text_test e f g h =
    rw ((Decides-eqb width wide).1 e, sym f ∙ g) h

other_attributes : (text others : List ℕ) (width wide : ℕ) (attrs more : Attrs) (attrs_test : Bool) → width ≡ wide → attrs_test ≡ same_attrs attrs more → attrs_test ≡ false → attrs_test ≡ same_cell (Lead text width attrs) (Lead others wide more)
other_attributes text others width wide attrs more attrs_test e f g =
    rw ((Decides-eqb width wide).1 e, sym f ∙ g) g

pub returns-then-eq : goal.returns-then-eq
returns-then-eq c =
    let a = c.in-Lead-Lead in
    rw (a.is-0, a.is-1) (same_attributes a.text a.other_text a.width a.other_width a.attrs a.other_attrs c.eq.result c.eq-then-eq.result c.if-width-other_width.false c.eq.ensures c.if-eq.true c.eq-then-eq.ensures)

pub returns-else-eq : goal.returns-else-eq
returns-else-eq c =
    let a = c.in-Lead-Lead in
    rw (a.is-0, a.is-1) (other_attributes a.text a.other_text a.width a.other_width a.attrs a.other_attrs c.eq.result c.if-width-other_width.false c.eq.ensures c.if-eq.false)
