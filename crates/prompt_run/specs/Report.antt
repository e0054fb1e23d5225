-- The printed text of a terminal's screen.
use Rattle.std.specs.Prelude.{ℕ, ◌+◌, Bool, true, false, ◌==◌, List, [], ◌∷◌, ◌++◌, map, take, drop, flat_map, if◌then◌else◌, codes, decimal, encode_utf8_all}
use Rattle.std.specs.List.{list_all}
use Rattle.term_model.specs.Term.{Term}
use Rattle.cell_grid.specs.declared.cell.Cell.{Cell}
use Rattle.cell_grid.specs.declared.cell.Cell.TheVariants.{Lead, Tail}

-- the characters of a row from left to right
abbrev pub text_of : List Cell → List ℕ
text_of [] = []
text_of (Lead text width attrs ∷ cells) = text ++ text_of cells
text_of (Tail ∷ cells) = text_of cells

-- some things without those at the end that pass a test: where all that are left pass it, none stands
abbrev pub without_last : {A : Type 0} → (A → Bool) → List A → List A
without_last test [] = []
without_last test (thing ∷ things) = if list_all test (thing ∷ things) then [] else thing ∷ without_last test things

abbrev pub is_space : ℕ → Bool
is_space char = char == 32

-- a text without the spaces at its end
abbrev pub trimmed : List ℕ → List ℕ
trimmed text = without_last is_space text

-- a text that is empty
abbrev pub has_no_text : List ℕ → Bool
has_no_text [] = true
has_no_text (char ∷ chars) = false

-- the rows down to the cursor's, and those behind it down to the last row with text
abbrev pub reported : ℕ → List (List ℕ) → List (List ℕ)
reported row texts = take (row + 1) texts ++ without_last has_no_text (drop (row + 1) texts)

-- a row of the report: `|`, the text in UTF-8 and a line feed
abbrev pub report_row : List ℕ → List ℕ
report_row text = 124 ∷ encode_utf8_all text ++ 10 ∷ []

-- the size, then the cursor's row and column from 0
abbrev pub heading : ℕ → ℕ → ℕ → ℕ → List ℕ
heading rows cols row col = codes "screen " ++ decimal rows ++ codes " " ++ decimal cols ++ codes " " ++ decimal row ++ codes " " ++ decimal col ++ codes "\n"

-- the texts of the visible rows
abbrev pub row_texts : List (List Cell) → List (List ℕ)
row_texts lines = map (λ cells. trimmed (text_of cells)) lines

abbrev pub report_of : Term → List ℕ
report_of t = heading t.rows t.cols t.row t.col ++ flat_map report_row (reported t.row (row_texts (drop t.top t.lines)))
