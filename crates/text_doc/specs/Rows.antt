-- Rows of a text, which line feeds (10) part. Rows and columns are counted from 0.
use Rattle.std.specs.Prelude.{ℕ, ◌+◌, ◌-◌, min, Bool, ◌||◌, ◌==◌, List, length, take, slice_index, slice_get, count_by, Option, None, Some, unwrap_or, if◌then◌else◌}
use Rattle.text_doc.specs.Places.{first, last, passing}

-- the place is 0, or a line feed stands before it
abbrev pub is_row_start : List ℕ → ℕ → Bool
is_row_start text i = i == 0 || slice_index text (i - 1) == 10

-- the place is the text's end, or a line feed stands there
abbrev pub is_row_end : List ℕ → ℕ → Bool
is_row_end text i = i == length text || slice_index text i == 10

-- where the row of this place starts: the greatest row start up to the place (0 is one)
unfoldable pub line_start : List ℕ → ℕ → ℕ
line_start text place = unwrap_or (last (passing (is_row_start text) 0 (place + 1))) 0

-- where the row of this place ends: the least row end from the place on (the text's end is one)
unfoldable pub line_end : List ℕ → ℕ → ℕ
line_end text place = unwrap_or (first (passing (is_row_end text) place (length text + 1))) (length text)

-- the number of the row of this place: how many line feeds stand before it
unfoldable pub row_of : List ℕ → ℕ → ℕ
row_of text place = count_by (λ c. c == 10) (take place text)

-- where the row with this number starts, or the last row where there is none with it
unfoldable pub row_start : List ℕ → ℕ → ℕ
row_start text row =
    unwrap_or (slice_get (passing (is_row_start text) 0 (length text + 1)) row) (line_start text (length text))

-- the place in this row and column: of the last row where the row is too large, at the row's end where the column is
unfoldable pub index_of : List ℕ → ℕ → ℕ → ℕ
index_of text row col = min (row_start text row + col) (line_end text (row_start text row))

-- `count` rows up or in the first row, at the column or the row's end; None from the first row, or for no count
unfoldable pub up : List ℕ → ℕ → ℕ → ℕ → Option ℕ
up text cursor count col =
    if row_of text cursor == 0 || count == 0 then None else Some (index_of text (row_of text cursor - count) col)

-- `count` rows down or in the last row, at the column or the row's end; None from the last row, or for no count
unfoldable pub down : List ℕ → ℕ → ℕ → ℕ → Option ℕ
down text cursor count col =
    if row_of text cursor == row_of text (length text) || count == 0 then None else Some (index_of text (row_of text cursor + count) col)
