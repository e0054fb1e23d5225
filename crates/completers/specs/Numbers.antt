-- Texts that are a number: an optional `-` (45), and from 1 to 38 digits.
use Rattle.std.specs.Prelude.{ℕ, ◌+◌, Bool, not, ◌&&◌, ◌==◌, nat_lt, nat_le, List, [], ◌∷◌, length, take, unwrap_or, if◌then◌else◌}
use Rattle.std.specs.Char.{is_ascii_digit}
use Rattle.std.specs.List.{list_all}
use Rattle.text_doc.specs.Places.{first, passing}
use Rattle.completers.specs.declared.numbers.TheConstants.{MAX_DIGITS}

-- what stands behind the sign, if there is one
abbrev pub unsigned : List ℕ → List ℕ
unsigned [] = []
unsigned (c ∷ cs) = if c == 45 then cs else c ∷ cs

-- whether the text begins a number: there are only digits behind the sign, and not too many
abbrev pub begins_number : List ℕ → Bool
begins_number text = list_all is_ascii_digit (unsigned text) && nat_le (length (unsigned text)) MAX_DIGITS

-- whether it is one: there is also some digit
abbrev pub is_number : List ℕ → Bool
is_number text = begins_number text && nat_lt 0 (length (unsigned text))

-- the place of the character with which the text begins no number any more; its length where there is none
abbrev pub number_fault : List ℕ → ℕ
number_fault text = unwrap_or (first (passing (λ i. not (begins_number (take (i + 1) text))) 0 (length text))) (length text)
