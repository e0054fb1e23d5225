-- The parameters of a control sequence, read as numbers (ECMA-48, 5.4.1 and 5.4.2).
use Rattle.std.specs.Prelude.{ℕ, ◌+◌, ◌-◌, ◌*◌, Bool, List, [], ◌∷◌, ◌==◌, ◌||◌, ◌&&◌, nat_le, min, if◌then◌else◌}
use Rattle.std.specs.List.{list_all}

-- a digit from 0 to 9
abbrev pub is_digit : ℕ → Bool
is_digit c = nat_le 48 c && nat_le c 57

-- a digit, or the `;` that separates two numbers
abbrev pub is_numeric : ℕ → Bool
is_numeric c = is_digit c || (c == 59)

-- a number above 9,999 counts as 9,999
abbrev pub capped : ℕ → ℕ
capped value = min 9999 value

-- the numbers that some digits and separators give, where `value` has been read of the first: an empty one is 0
abbrev pub numbers_from : ℕ → List ℕ → List ℕ
numbers_from value [] = capped value ∷ []
numbers_from value (c ∷ cs) =
    if c == 59 then capped value ∷ numbers_from 0 cs else numbers_from (10 * value + (c - 48)) cs

-- the numbers of some parameters, which has none where another character stands among them
abbrev pub numbers : List ℕ → List ℕ
numbers params = if list_all is_numeric params then numbers_from 0 params else []
