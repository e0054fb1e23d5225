-- What a contract sees of a cell: a Lead, which has a text, a width and attributes, or the Tail behind a wide Lead.
use Rattle.std.specs.Prelude.{◌≡◌, ℕ, ◌-◌, ◌⊎◌, Bool, true, false, ◌&&◌, List, [], ◌∷◌, replicate, nat_eq}
use Rattle.std.specs.Str.{bytes_eq}
use Rattle.cell_grid.specs.declared.attrs.Attrs.{Attrs}
use Rattle.cell_grid.specs.declared.cell.Cell.{Cell}
use Rattle.cell_grid.specs.declared.cell.Cell.TheVariants.{Lead, Tail}
use Rattle.cell_grid.specs.CellText.{with_joined}
use Rattle.cell_grid.specs.Attrs.{plain, same_attrs}

-- one character of width 1
abbrev pub narrow : ℕ → Attrs → Cell
narrow char attrs = Lead (char ∷ []) 1 attrs

-- a space of width 1 without attributes
abbrev pub blank : Cell
blank = narrow 32 plain

-- a Lead of width 1 or 2
abbrev pub IsLead : Cell → Type 0
IsLead (Lead text width attrs) = (width ≡ 1) ⊎ (width ≡ 2)
IsLead Tail = ⊥

-- whether it is a Lead of two columns
abbrev pub is_wide : Cell → Bool
is_wide (Lead text width attrs) = nat_eq width 2
is_wide Tail = false

-- the cell with a character joined to its text, where that has room
abbrev pub joined : Cell → ℕ → Cell
joined (Lead text width attrs) next = Lead (with_joined text next) width attrs
joined Tail next = Tail

-- the places of a cell: its own, and one with a Tail for each further column
abbrev pub spread : Cell → List Cell
spread (Lead text width attrs) = Lead text width attrs ∷ replicate (width - 1) Tail
spread Tail = Tail ∷ []

-- whether two cells are equal in their characters, widths and attributes
abbrev pub same_cell : Cell → Cell → Bool
same_cell (Lead text width attrs) (Lead others wide more) = nat_eq width wide && same_attrs attrs more && bytes_eq text others
same_cell (Lead text width attrs) Tail = false
same_cell Tail (Lead others wide more) = false
same_cell Tail Tail = true
