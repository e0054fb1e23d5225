-- What a contract sees of a history file: the entries that its bytes hold, and the bytes that an entry is written as.
use Rattle.std.specs.Prelude.{ℕ, Bool, true, false, ◌==◌, not, List, [], ◌∷◌, ◌++◌, length, drop, map, filter, nat_le, slice_index, codes, decimal, encode_utf8_all}
use Rattle.std.specs.List.{slice_split, join_with_byte, flat_map}
use Rattle.bstr.specs.Utf8.{lossy_chars}
use Rattle.text_doc.specs.Lines.{lines_of}
use Rattle.text_doc.specs.declared.documents.TheConstants.{MAX_LENGTH}

-- whether the line is one of an entry: it begins with `+` (43)
abbrev pub is_entry_line : List ℕ → Bool
is_entry_line line = slice_index line 0 == 43

-- whether there is any line
abbrev pub has_lines : List (List ℕ) → Bool
has_lines [] = false
has_lines (line ∷ lines) = true

-- the maximal runs of lines of an entry: the lines are cut at each line that is none
abbrev pub runs_of : List (List ℕ) → List (List (List ℕ))
runs_of lines = filter has_lines (slice_split (λ line. not (is_entry_line line)) lines)

-- the characters of a line of an entry, behind its `+`
abbrev pub line_text : List ℕ → List ℕ
line_text line = lossy_chars (drop 1 line)

-- the text of a run: those of its lines, joined by line feeds
abbrev pub run_text : List (List ℕ) → List ℕ
run_text run = join_with_byte 10 (map line_text run)

-- whether a text is short enough for a document
abbrev pub is_short : List ℕ → Bool
is_short text = nat_le (length text) MAX_LENGTH

-- the entries of a file, from the oldest on: the texts of its runs, without those that are too long
unfoldable pub entries_of : List ℕ → List (List ℕ)
entries_of bytes = filter is_short (map run_text (runs_of (lines_of bytes)))

-- what a line of an entry is written as
abbrev pub line_bytes : List ℕ → List ℕ
line_bytes line = codes "+" ++ encode_utf8_all line ++ codes "\n"

-- what an entry is written as: a line feed, a comment that has the moment, and its lines
unfoldable pub entry_bytes : List ℕ → ℕ → List ℕ
entry_bytes entry moment = codes "\n# " ++ decimal moment ++ codes "\n" ++ flat_map line_bytes (lines_of entry)
