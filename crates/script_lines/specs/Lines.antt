-- What a contract sees of the lines of a script.
use Rattle.std.specs.Prelude.{ℕ, List, [], ◌∷◌}
use Rattle.text_doc.specs.Lines.{lines_of}

-- the last line, where any byte stands in it
abbrev pub last_line : List ℕ → List (List ℕ)
last_line [] = []
last_line (byte ∷ bytes) = (byte ∷ bytes) ∷ []

-- a line and those behind it, without the last one where it is empty
abbrev pub ended_from : List ℕ → List (List ℕ) → List (List ℕ)
ended_from line [] = last_line line
ended_from line (next ∷ lines) = line ∷ ended_from next lines

-- the lines without the last one, where it is empty
abbrev pub ended : List (List ℕ) → List (List ℕ)
ended [] = []
ended (line ∷ lines) = ended_from line lines

-- the lines of a script: each ends with a line feed, which the last one may lack
abbrev pub script_lines : List ℕ → List (List ℕ)
script_lines bytes = ended (lines_of bytes)
