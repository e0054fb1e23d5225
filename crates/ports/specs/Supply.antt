-- What a contract sees of a source of bytes.
use Rattle.std.specs.Prelude.{◌≡◌, ℕ, if◌then◌else◌, ◌&&◌, nat_eq, nat_lt, List, Option, Result, MatchResult}
use Rattle.causes.specs.Faults.{counted}

-- the bytes that reads will give from here on, where the source tells them; how many reads failed;
-- and how many reads gave no byte although there was room for one
pub record Supply : Type 0 where
  pub left : Option (List ℕ)
  pub faults : ℕ
  pub empty_reads : ℕ

-- a read into a buffer of this length is counted as empty exactly where there was room and it gave no byte
abbrev pub CountsEmptyRead : {E : Type 0} → ℕ → ℕ → ℕ → Result ℕ E → Type 0
CountsEmptyRead before now room result =
    MatchResult result (λ given. now ≡ (if nat_eq given 0 && nat_lt 0 room then counted before else before)) (λ _. now ≡ before)
