-- The bytes by which texts are searched: three for each character, of which only the first is 128 or more.
use Rattle.std.specs.Prelude.{ℕ, ◌+◌, ◌/◌, ◌%◌, List, [], ◌∷◌}
use Rattle.std.specs.List.{flat_map}

-- the bytes of a character
abbrev pub mark : ℕ → List ℕ
mark c = (128 + c / 128 / 128) ∷ (c / 128 % 128) ∷ (c % 128) ∷ []

-- the bytes of a text
abbrev pub marked : List ℕ → List ℕ
marked text = flat_map mark text
