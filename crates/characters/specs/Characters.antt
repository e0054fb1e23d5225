-- What a contract sees of decoding: the characters of bytes by the Unicode Standard's Table 3-7, one U+FFFD for each
-- maximal part that is none, and the unfinished character at the end.
use Rattle.std.specs.Prelude.{ℕ, ◌-◌, Bool, List, [], ◌∷◌, length, Some, None, is_none, slice_index, nat_lt, ◌==◌, ◌&&◌, if◌then◌else◌}
use Rattle.bstr.specs.Utf8.{Decoded, decoded, lead_len, or_replacement, replacement}
use Rattle.characters.specs.Cut.{Cut, First, cut_of}

-- of n bytes that begin with b and decode to p: they are all the front of one character, and it needs more
abbrev pub is_unfinished_by : Decoded → ℕ → ℕ → Bool
is_unfinished_by p n b = is_none p.char && (p.size == n && nat_lt n (lead_len b))

-- the bytes are a proper front of a character
abbrev pub is_unfinished : List ℕ → Bool
is_unfinished bytes = is_unfinished_by (decoded bytes) (length bytes) (slice_index bytes 0)

abbrev pub first_char : First ℕ
first_char bytes = if is_unfinished bytes then None else Some (or_replacement (decoded bytes).char, (decoded bytes).size - 1)

-- the characters of the bytes, and the bytes of an unfinished one
abbrev pub characters : List ℕ → Cut ℕ
characters bytes = cut_of first_char bytes

-- what a character counts as that stays unfinished: U+FFFD, or nothing where no byte of it came
abbrev pub unfinished_char : List ℕ → List ℕ
unfinished_char [] = []
unfinished_char (b ∷ bytes) = replacement ∷ []
