-- What a contract sees of a size: its rows and its columns.
use Rattle.std.specs.Prelude.{ℕ, ◌≤◌}

-- a number of rows and a number of columns
pub record Extent : Type 0 where
  pub rows : ℕ
  pub cols : ℕ

-- a screen has 1 to 500 rows and 1 to 1,000 columns
abbrev pub IsScreen : ℕ → ℕ → Type 0
IsScreen rows cols = (1 ≤ rows) × (rows ≤ 500) × (1 ≤ cols) × (cols ≤ 1000)
