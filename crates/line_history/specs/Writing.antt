-- How an entry is written character by character.
use Rattle.std.specs.Prelude.{ℕ, Bool, true, false, ◌==◌, List, ◌++◌, codes, encode_utf8}

-- a character in UTF-8; behind a line feed the next line begins with `+`
abbrev pub char_bytes_if : Bool → ℕ → List ℕ
char_bytes_if true c = encode_utf8 c ++ codes "+"
char_bytes_if false c = encode_utf8 c

abbrev pub char_bytes : ℕ → List ℕ
char_bytes c = char_bytes_if (c == 10) c
