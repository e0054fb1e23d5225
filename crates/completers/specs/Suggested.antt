-- What a history suggests to put behind a text.
use Rattle.std.specs.Prelude.{ℕ, nat_eq, ◌==◌, List, length, drop, reverse, find, Option, None, Some, option_map, if◌then◌else◌}
use Rattle.std.specs.Char.{is_whitespace}
use Rattle.std.specs.List.{list_all, flat_map, after_last, starts_with}
use Rattle.text_doc.specs.Lines.{lines_of}

-- what stands behind the last line feed
abbrev pub last_line : List ℕ → List ℕ
last_line text = after_last (λ c. c == 10) text

-- the lines of all entries, the last one of the newest first; the newest entry is the last
abbrev pub newest_first : List (List ℕ) → List (List ℕ)
newest_first history = reverse (flat_map lines_of history)

-- the rest of a line that starts with `line`
abbrev pub rest_of_line : List ℕ → List ℕ → Option (List ℕ)
rest_of_line line old = if starts_with nat_eq old line then Some (drop (length line) old) else None

-- the rest of the newest line that starts with `line`
abbrev pub rest_of_newest : List (List ℕ) → List ℕ → Option (List ℕ)
rest_of_newest history line = option_map (drop (length line)) (find (λ old. starts_with nat_eq old line) (newest_first history))

-- the suggestion; none where the last line is empty or all white space
abbrev pub suggestion : List (List ℕ) → List ℕ → Option (List ℕ)
suggestion history text = if list_all is_whitespace (last_line text) then None else rest_of_newest history (last_line text)
