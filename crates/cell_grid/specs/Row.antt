-- What a contract sees of a row: the list of its cells, where a Tail stands exactly behind each wide Lead.
use Rattle.std.specs.Prelude.{◌≡◌, ℕ, ◌+◌, ◌⊎◌, Bool, true, false, List, [], ◌∷◌, ◌++◌, length, take, drop, replicate, if◌then◌else◌}
use Rattle.cell_grid.specs.declared.cell.Cell.{Cell}
use Rattle.cell_grid.specs.declared.cell.Cell.TheVariants.{Lead, Tail}
use Rattle.cell_grid.specs.Cell.{blank, is_wide, spread}

-- a Tail stands behind each Lead of width 2 and nowhere else, where the cell before is such a Lead or not
abbrev pub IsWholeAfter : Bool → List Cell → Type 0
IsWholeAfter false [] = Unit {0}
IsWholeAfter true [] = ⊥
IsWholeAfter false (Lead text width attrs ∷ rest) = ((width ≡ 1) × IsWholeAfter false rest) ⊎ ((width ≡ 2) × IsWholeAfter true rest)
IsWholeAfter false (Tail ∷ rest) = ⊥
IsWholeAfter true (Lead text width attrs ∷ rest) = ⊥
IsWholeAfter true (Tail ∷ rest) = IsWholeAfter false rest

-- each Lead has width 1 or 2, and a Tail stands exactly behind each Lead of width 2
abbrev pub IsWhole : List Cell → Type 0
IsWhole cells = IsWholeAfter false cells

-- a row of blanks
abbrev pub blank_row : ℕ → List Cell
blank_row cols = replicate cols blank

-- a cell whose next one is cut off: a wide Lead becomes blank
abbrev pub mended : Cell → Cell
mended cell = if is_wide cell then blank else cell

-- the front of a row that is cut: a wide Lead that lost its Tail becomes blank
abbrev pub mend_end : List Cell → List Cell
mend_end [] = []
mend_end (cell ∷ []) = mended cell ∷ []
mend_end (cell ∷ next ∷ rest) = cell ∷ mend_end (next ∷ rest)

-- the back of a row that is cut: a Tail that lost its Lead becomes blank
abbrev pub mend_start : List Cell → List Cell
mend_start [] = []
mend_start (Lead text width attrs ∷ rest) = Lead text width attrs ∷ rest
mend_start (Tail ∷ rest) = blank ∷ rest

-- the row with these cells in place of those from a place on; a half of a wide character that stays becomes blank
abbrev pub laid_at : List Cell → ℕ → List Cell → List Cell
laid_at row at cells = mend_end (take at row) ++ cells ++ mend_start (drop (at + length cells) row)

-- the row with a Lead put at a place, and its Tail behind it where it is wide
abbrev pub put_at : List Cell → ℕ → Cell → List Cell
put_at row at lead = laid_at row at (spread lead)
