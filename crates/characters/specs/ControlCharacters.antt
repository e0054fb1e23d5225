-- What a contract sees of control sequences: the classes of their characters (ECMA-48, 5.4).
use Rattle.std.specs.Prelude.{ℕ, Bool}
use Rattle.std.specs.Int.{is_in_range}

-- 0 to 9, and : ; < = > ?
abbrev pub is_parameter : ℕ → Bool
is_parameter = is_in_range 0x30 0x3F

-- the space, and ! to /
abbrev pub is_intermediate : ℕ → Bool
is_intermediate = is_in_range 0x20 0x2F

-- @ to ~
abbrev pub is_final : ℕ → Bool
is_final = is_in_range 0x40 0x7E
