-- How bytes are spelled in a script and in a report: printable ASCII stands for itself, `\` is `\\`, and every other byte is `\x` and two
-- digits of `0-9a-f`.
use Rattle.std.specs.Prelude.{ℕ, ◌+◌, ◌-◌, ◌*◌, ◌/◌, ◌%◌, Bool, ◌==◌, ◌&&◌, ◌||◌, not, nat_le, nat_lt, List, [], ◌∷◌, ◌++◌, Option, Some, None, option_map, if◌then◌else◌}
use Rattle.std.specs.List.{flat_map}
use Rattle.script_lines.specs.declared.spelling.Reading.{Reading}
use Rattle.script_lines.specs.declared.spelling.Reading.TheVariants.{Plain, Escape, High, Low}
use Rattle.script_lines.specs.declared.spelling.Step.{Step}
use Rattle.script_lines.specs.declared.spelling.Step.TheVariants.{Whole, Onward, Refused}

-- a byte that stands for itself
abbrev pub is_plain : ℕ → Bool
is_plain byte = nat_le 32 byte && nat_le byte 126 && not (byte == 92)

-- the digit of a number below sixteen
abbrev pub hex_digit : ℕ → ℕ
hex_digit n = if nat_lt n 10 then 48 + n else 87 + n

-- the one spelling of a byte
abbrev pub spelled : ℕ → List ℕ
spelled byte =
    if is_plain byte then byte ∷ []
    else if byte == 92 then 92 ∷ 92 ∷ []
    else 92 ∷ 120 ∷ hex_digit (byte / 16) ∷ hex_digit (byte % 16) ∷ []

-- the one spelling of some bytes
abbrev pub spelling : List ℕ → List ℕ
spelling bytes = flat_map spelled bytes

-- the number that a digit stands for
abbrev pub digit_value : ℕ → Option ℕ
digit_value digit =
    if nat_le 48 digit && nat_le digit 57 then Some (digit - 48)
    else if nat_le 97 digit && nat_le digit 102 then Some (digit - 87)
    else None

-- the byte of two digits, which no shorter spelling has
abbrev pub hex_byte : Option ℕ → Option ℕ → Option ℕ
hex_byte None low = None
hex_byte (Some high) None = None
hex_byte (Some high) (Some low) = if is_plain (high * 16 + low) || (high * 16 + low == 92) then None else Some (high * 16 + low)

-- a byte that is complete, where there is one
abbrev pub whole_byte : Option ℕ → Step
whole_byte None = Refused
whole_byte (Some byte) = Whole byte

-- what a character leads to
abbrev pub step_of : Reading → ℕ → Step
step_of Plain c = if c == 92 then Onward Escape else if is_plain c then Whole c else Refused
step_of Escape c = if c == 92 then Whole 92 else if c == 120 then Onward High else Refused
step_of High c = Onward (Low c)
step_of (Low high) c = whole_byte (hex_byte (digit_value high) (digit_value c))

-- some bytes, and then those that may follow
abbrev pub with_front : List ℕ → Option (List ℕ) → Option (List ℕ)
with_front front bytes = option_map (λ rest. front ++ rest) bytes

-- the bytes behind a step, where `rest` reads what is left
abbrev pub read_on : Step → (Reading → Option (List ℕ)) → Option (List ℕ)
read_on (Whole byte) rest = with_front (byte ∷ []) (rest Plain)
read_on (Onward reading) rest = rest reading
read_on Refused rest = None

-- nothing is left to read: the bytes are complete where none has begun
abbrev pub read_end : Reading → Option (List ℕ)
read_end Plain = Some []
read_end Escape = None
read_end High = None
read_end (Low high) = None

-- the bytes that a text spells, read on from here
abbrev pub bytes_from : List ℕ → Reading → Option (List ℕ)
bytes_from [] reading = read_end reading
bytes_from (c ∷ cs) reading = read_on (step_of reading c) (λ next. bytes_from cs next)

-- the bytes that a text spells: none where it is no spelling
abbrev pub unspelled : List ℕ → Option (List ℕ)
unspelled text = bytes_from text Plain
