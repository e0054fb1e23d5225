-- What a contract sees of a keeper of bytes.
use Rattle.std.specs.Prelude.{ℕ, List}

-- the bytes that a keeper in memory keeps, and how many of its calls failed
pub record Kept : Type 0 where
  pub bytes : List ℕ
  pub faults : ℕ
