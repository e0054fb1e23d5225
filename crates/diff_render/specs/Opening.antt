-- The bytes that a frame begins with where nothing is on the screen, or where its size was forgotten.
use Rattle.std.specs.Prelude.{ℕ, Bool, true, false, List, [], ◌∷◌, ◌++◌, nat_lt, if◌then◌else◌}
use Rattle.diff_render.specs.Canvas.{question}
use Rattle.diff_render.specs.Spelling.{arrow}

-- up so many rows to the base line
abbrev pub climb : ℕ → List ℕ
climb n = if nat_lt 0 n then arrow n 65 else []

-- CR, a plain pen, all erased from here on, autowrap off, bracketed paste on, and the cursor visible
abbrev pub opening : List ℕ
opening =
    13 ∷ 27 ∷ 91 ∷ 109 ∷ 27 ∷ 91 ∷ 74 ∷ 27 ∷ 91 ∷ 63 ∷ 55 ∷ 108 ∷ 27 ∷ 91 ∷ 63 ∷ 50 ∷ 48 ∷ 48 ∷ 52 ∷ 104 ∷ 27 ∷ 91 ∷ 63 ∷ 50 ∷ 53 ∷ 104 ∷ []

-- the question, where it is asked
abbrev pub asking : Bool → List ℕ
asking true = question
asking false = []

abbrev pub opening_of : ℕ → Bool → List ℕ
opening_of up asks = climb up ++ opening ++ asking asks
