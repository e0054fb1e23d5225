-- Which cells a terminal draws as they are: each takes its columns, and no character is lost or changed.
use Rattle.std.specs.Prelude.{◌≡◌, ℕ, ◌≤◌, false, List, [], ◌∷◌, Option, Some, None}
use Rattle.unicode_width.specs.Width.{char_width}
use Rattle.cell_grid.specs.declared.attrs.Attrs.{Attrs}
use Rattle.cell_grid.specs.declared.attrs.Colour.{Colour}
use Rattle.cell_grid.specs.declared.attrs.Colour.TheVariants.{Ansi, Rgb}
use Rattle.cell_grid.specs.declared.cell.Cell.{Cell}
use Rattle.cell_grid.specs.declared.cell.Cell.TheVariants.{Lead, Tail}

-- each character takes no column: control characters, which have no width at all, are not among them
abbrev pub AllJoining : List ℕ → Type 0
AllJoining [] = Unit {0}
AllJoining (c ∷ cs) = (char_width false c ≡ Some 0) × AllJoining cs

-- a character of this many columns and then characters of none
abbrev pub IsCharacter : List ℕ → ℕ → Type 0
IsCharacter [] width = ⊥
IsCharacter (c ∷ cs) width = (char_width false c ≡ Some width) × AllJoining cs

-- no colour, or one that a terminal has
abbrev pub IsColour : Option Colour → Type 0
IsColour None = Unit {0}
IsColour (Some (Ansi n)) = n ≤ 15
IsColour (Some (Rgb r g b)) = Unit {0}

abbrev pub IsPen : Attrs → Type 0
IsPen attrs = IsColour attrs.fg × IsColour attrs.bg

-- the cell can be drawn
abbrev pub IsDrawable : Cell → Type 0
IsDrawable (Lead text width attrs) = IsCharacter text width × IsPen attrs
IsDrawable Tail = Unit {0}

-- each cell of a row can
abbrev pub AllDrawable : List Cell → Type 0
AllDrawable [] = Unit {0}
AllDrawable (cell ∷ cells) = IsDrawable cell × AllDrawable cells

-- each cell of some rows can
abbrev pub AllRowsDrawable : List (List Cell) → Type 0
AllRowsDrawable [] = Unit {0}
AllRowsDrawable (row ∷ rows) = AllDrawable row × AllRowsDrawable rows
