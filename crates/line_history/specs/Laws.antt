-- What the laws say of the characters of an entry.
use Rattle.std.specs.Prelude.{◌≡◌, ℕ, true, List}
use lib.Utf8.{scalars}

-- each of them is a Unicode scalar value
abbrev pub AreScalars : List ℕ → Type 0
AreScalars chars = scalars chars ≡ true
