-- What a contract sees of a number that was read.
use Rattle.std.specs.Prelude.{ℕ, ◌&&◌, List, Option, Some, None, nat_le, decimal, if◌then◌else◌}
use Rattle.std.specs.Str.{bytes_eq}
use Rattle.std.specs.Str.Parse.{digits_value}

-- the number that is written as this text, where it is at most `most`: in decimal, without leading zeros
abbrev pub number_of : ℕ → List ℕ → Option ℕ
number_of most text =
    if nat_le (digits_value 10 text) most && bytes_eq text (decimal (digits_value 10 text)) then Some (digits_value 10 text) else None

-- a number that is 1 at least
abbrev pub positive : Option ℕ → Option ℕ
positive None = None
positive (Some n) = if nat_le 1 n then Some n else None
