-- Brackets that match, over `()`, `[]`, `{}` and `<>`. A bracket counts its own kind alone.
use Rattle.std.specs.Prelude.{ℕ, ◌+◌, Bool, ◌==◌, List, length, slice_index, slice_range, count_by, Option, None, Some, if◌then◌else◌}
use Rattle.text_doc.specs.Places.{first, last, passing}

-- the closing bracket of an opening one
abbrev pub closing_of : ℕ → Option ℕ
closing_of c =
    if c == 40 then Some 41 else (if c == 91 then Some 93 else (if c == 123 then Some 125 else (if c == 60 then Some 62 else None)))

-- the opening bracket of a closing one
abbrev pub opening_of : ℕ → Option ℕ
opening_of c =
    if c == 41 then Some 40 else (if c == 93 then Some 91 else (if c == 125 then Some 123 else (if c == 62 then Some 60 else None)))

-- how often `c` stands from `from` up to and without `to`
unfoldable pub count_between : ℕ → List ℕ → ℕ → ℕ → ℕ
count_between c text from to = count_by (λ x. x == c) (slice_range text from to)

-- whether the range holds as many of one bracket as of the other
abbrev pub is_balanced : ℕ → ℕ → List ℕ → ℕ → ℕ → Bool
is_balanced opening closing text from to = count_between opening text from to == count_between closing text from to

-- the least place behind the cursor up to which, itself included, as many close as open
unfoldable pub match_ahead : ℕ → ℕ → List ℕ → ℕ → Option ℕ
match_ahead opening closing text cursor =
    first (passing (λ j. is_balanced opening closing text cursor (j + 1)) (cursor + 1) (length text))

-- the greatest place before the cursor from which on, the cursor's character included, as many open as close
unfoldable pub match_back : ℕ → ℕ → List ℕ → ℕ → Option ℕ
match_back opening closing text cursor = last (passing (λ j. is_balanced opening closing text j (cursor + 1)) 0 cursor)

-- the match of a closing bracket, or of no bracket
abbrev pub match_of_closing : Option ℕ → List ℕ → ℕ → Option ℕ
match_of_closing None text cursor = None
match_of_closing (Some opening) text cursor = match_back opening (slice_index text cursor) text cursor

-- the match of an opening bracket, or else of another character
abbrev pub match_of : Option ℕ → List ℕ → ℕ → Option ℕ
match_of None text cursor = match_of_closing (opening_of (slice_index text cursor)) text cursor
match_of (Some closing) text cursor = match_ahead (slice_index text cursor) closing text cursor

-- the match of the character at the cursor
unfoldable pub matching_bracket : List ℕ → ℕ → Option ℕ
matching_bracket text cursor = match_of (closing_of (slice_index text cursor)) text cursor
