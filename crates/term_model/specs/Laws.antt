-- What the laws say of characters and of bytes.
use Rattle.std.specs.Prelude.{◌≡◌, ℕ, true, List, []}
use lib.Utf8.{scalars}
use Rattle.characters.specs.Characters.{characters}
use Rattle.term_model.specs.Controls.{between, read_after}
use Rattle.term_model.specs.Obeying.{chars_of}

-- each character is a Unicode scalar value
abbrev pub AreScalars : List ℕ → Type 0
AreScalars chars = scalars chars ≡ true

-- bytes that end between characters and between control sequences
pub record EndBetween (bytes : List ℕ) : Type 0 where
  pub characters : (characters bytes).rest ≡ []
  pub sequences : read_after between (chars_of bytes) ≡ between
