-- Texts in ASCII.
use Rattle.std.specs.Prelude.{ℕ, Bool, List, nat_lt}
use Rattle.std.specs.List.{list_all}

-- every character is ASCII
abbrev pub is_ascii : List ℕ → Bool
is_ascii text = list_all (λ c. nat_lt c 128) text
