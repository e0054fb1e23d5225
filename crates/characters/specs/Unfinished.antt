-- What a contract sees of unfinished characters: bytes that begin the UTF-8 of one, and lack some of it.
use Rattle.std.specs.Prelude.{◌≡◌, ℕ, ◌<◌, List, ◌++◌, length}
use Rattle.std.specs.Char.{IsScalar, encode_utf8}

-- a proper front of the UTF-8 of a character, the empty one included
pub record BeginsCharacter (bytes : List ℕ) : Type 0 where
  pub char : ℕ
  pub lacking : List ℕ
  pub scalar : IsScalar char
  pub some : 0 < length lacking
  pub whole : bytes ++ lacking ≡ encode_utf8 char
