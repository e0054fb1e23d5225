-- Where a cell fits into a row.
use Rattle.std.specs.Prelude.{◌≡◌, ℕ, ◌+◌, ◌≤◌, ◌⊎◌}
use Rattle.cell_grid.specs.declared.cell.Cell.{Cell}
use Rattle.cell_grid.specs.declared.cell.Cell.TheVariants.{Lead, Tail}

-- a Lead of one or two columns has them all from a column on in a row of so many
abbrev pub FitsAt : ℕ → Cell → ℕ → Type 0
FitsAt at (Lead text width attrs) cols = ((width ≡ 1) ⊎ (width ≡ 2)) × (at + width ≤ cols)
FitsAt at Tail cols = Unit {0}
