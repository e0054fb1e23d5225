-- What `==` says of attributes, texts and cells: that they are equal.
use Rattle.std.specs.Prelude.{◌≡◌, Option, Some, None}
use Rattle.std.specs.Bool.{Decides}
use Rattle.std.specs.Option.{option_eq}
use Rattle.std.specs.Str.{bytes_eq}
use Rattle.std.specs.Cmp.{IsEquivalence, IsPartialEquivalence, decided, partial_equiv_from_equiv, booleans_Decides, unsigned_Decides}
use Rattle.std.proofs.Common.{refl}
use Rattle.std.proofs.lemmas.Bool.{false≢true}
use Rattle.std.proofs.lemmas.Bool.Decides.{Decides-and, Decides-like}
use Rattle.std.proofs.lemmas.Slice.Eq.{bytes_eq-Decides}
use Rattle.cell_grid.specs.declared.attrs.Attrs.{Attrs}
use Rattle.cell_grid.specs.declared.attrs.Colour.{Colour}
use Rattle.cell_grid.specs.declared.attrs.Colour.TheVariants.{Ansi, Rgb}
use Rattle.cell_grid.specs.declared.cell.Cell.{Cell}
use Rattle.cell_grid.specs.declared.cell.Cell.TheVariants.{Lead, Tail}
use Rattle.cell_grid.specs.Attrs.{same_colour, same_attrs}
use Rattle.cell_grid.specs.Cell.{same_cell}

pub same_colour-Decides : (a b : Colour) → Decides (same_colour a b) (a ≡ b)
same_colour-Decides (Ansi n) (Ansi m) = Decides-like _ (λ e i. Ansi (e i)) (λ e. cc) (unsigned_Decides n m)
same_colour-Decides (Ansi n) (Rgb s h c) = (λ e. absurd (false≢true e), λ e. cc)
same_colour-Decides (Rgb r g b) (Ansi m) = (λ e. absurd (false≢true e), λ e. cc)
same_colour-Decides (Rgb r g b) (Rgb s h c) =
    Decides-like _ (λ p i. Rgb (p.0.0 i) (p.0.1 i) (p.1 i)) (λ e. ((cc, cc), cc))
    (Decides-and _ _ (Decides-and _ _ (unsigned_Decides r s) (unsigned_Decides g h)) (unsigned_Decides b c))

pub same_colour-is_equivalence : IsEquivalence same_colour
same_colour-is_equivalence = decided same_colour same_colour-Decides

pub same_colour-is_partial_equivalence : IsPartialEquivalence same_colour
same_colour-is_partial_equivalence = partial_equiv_from_equiv same_colour-is_equivalence

option_eq-Decides : (a b : Option Colour) → Decides (option_eq same_colour a b) (a ≡ b)
option_eq-Decides None None = (λ e. refl, λ e. refl)
option_eq-Decides None (Some b) = (λ e. absurd (false≢true e), λ e. cc)
option_eq-Decides (Some a) None = (λ e. absurd (false≢true e), λ e. cc)
option_eq-Decides (Some a) (Some b) = Decides-like _ (λ e i. Some (e i)) (λ e. cc) (same_colour-Decides a b)

pub same_attrs-Decides : (a b : Attrs) → Decides (same_attrs a b) (a ≡ b)
same_attrs-Decides a b =
    Decides-like _
    (λ p i. record {
      fg = p.0 i;
      bg = p.1.0 i;
      bold = p.1.1.0 i;
      italic = p.1.1.1.0 i;
      underline = p.1.1.1.1.0 i;
      blink = p.1.1.1.1.1.0 i;
      reverse = p.1.1.1.1.1.1.0 i;
      hidden = p.1.1.1.1.1.1.1.0 i;
      strike = p.1.1.1.1.1.1.1.1 i;
    })
    (λ e. (
      λ i. (e i).fg,
      (
        λ i. (e i).bg,
        (
          λ i. (e i).bold,
          (
            λ i. (e i).italic,
            (
              λ i. (e i).underline,
              (
                λ i. (e i).blink,
                (λ i. (e i).reverse, (λ i. (e i).hidden, λ i. (e i).strike)),
              ),
            ),
          ),
        ),
      ),
    ))
    (Decides-and _ _ (option_eq-Decides a.fg b.fg) (Decides-and _ _ (option_eq-Decides a.bg b.bg)
    (Decides-and _ _ (booleans_Decides a.bold b.bold) (Decides-and _ _ (booleans_Decides a.italic b.italic)
    (Decides-and _ _ (booleans_Decides a.underline b.underline) (Decides-and _ _ (booleans_Decides a.blink b.blink)
    (Decides-and _ _ (booleans_Decides a.reverse b.reverse) (Decides-and _ _ (booleans_Decides a.hidden b.hidden)
    (booleans_Decides a.strike b.strike)))))))))

pub same_text-is_equivalence : IsEquivalence bytes_eq
same_text-is_equivalence = decided bytes_eq bytes_eq-Decides

pub same_text-is_partial_equivalence : IsPartialEquivalence bytes_eq
same_text-is_partial_equivalence = partial_equiv_from_equiv same_text-is_equivalence

pub same_cell-Decides : (a b : Cell) → Decides (same_cell a b) (a ≡ b)
same_cell-Decides (Lead text width attrs) (Lead others wide more) =
    Decides-like _ (λ p i. Lead (p.1 i) (p.0.0 i) (p.0.1 i)) (λ e. ((cc, cc), cc))
    (Decides-and _ _ (Decides-and _ _ (unsigned_Decides width wide) (same_attrs-Decides attrs more)) (bytes_eq-Decides text others))
same_cell-Decides (Lead text width attrs) Tail = (λ e. absurd (false≢true e), λ e. cc)
same_cell-Decides Tail (Lead others wide more) = (λ e. absurd (false≢true e), λ e. cc)
same_cell-Decides Tail Tail = (λ e. refl, λ e. refl)

pub same_cell-is_equivalence : IsEquivalence same_cell
same_cell-is_equivalence = decided same_cell same_cell-Decides

pub same_cell-is_partial_equivalence : IsPartialEquivalence same_cell
same_cell-is_partial_equivalence = partial_equiv_from_equiv same_cell-is_equivalence
