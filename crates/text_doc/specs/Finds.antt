-- Where a character stands in the cursor's row.
use Rattle.std.specs.Prelude.{ℕ, ◌+◌, Bool, true, false, ◌==◌, List, reverse, slice_index, Option}
use Rattle.text_doc.specs.Places.{nth_of, passing}
use Rattle.text_doc.specs.Rows.{line_start, line_end}

-- whether the character `c` stands at `i`
abbrev pub stands_at : ℕ → List ℕ → ℕ → Bool
stands_at c text i = slice_index text i == c

-- the place number `nth` of `c` in the cursor's row, behind the cursor or before it, counted from 1 and away from it
unfoldable pub find_char : List ℕ → ℕ → ℕ → Bool → ℕ → Option ℕ
find_char text cursor c true nth = nth_of (passing (stands_at c text) (cursor + 1) (line_end text cursor)) nth
find_char text cursor c false nth = nth_of (reverse (passing (stands_at c text) (line_start text cursor) cursor)) nth
