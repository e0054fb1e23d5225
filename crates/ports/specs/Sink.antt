-- What a contract sees of a sink of bytes.
use Rattle.std.specs.Prelude.{ℕ, List, Option, Result, MatchResult}
use Rattle.std.specs.Io.KnownBytes.{Appends}
use Rattle.std.specs.Io.{StartsWith}

-- the bytes that a sink in memory took, and how many of its puts failed
pub record Taken : Type 0 where
  pub bytes : List ℕ
  pub faults : ℕ

-- the bytes taken, where the sink tells them, grew by all the bytes, or where the put failed by some from the front
abbrev pub Puts : {E : Type 0} → Option (List ℕ) → Option (List ℕ) → List ℕ → Result (Unit {0}) E → Type 0
Puts old new bytes result =
    MatchResult result (λ _. Appends old new bytes) (λ _. (part : List ℕ) × StartsWith bytes part × Appends old new part)
