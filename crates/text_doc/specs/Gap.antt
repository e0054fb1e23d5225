-- What a contract sees of a list with a gap.
use Rattle.std.specs.Prelude.{ℕ, ◌++◌, List}

-- the items before the gap and those behind it, and how many more the gap can take
pub record Gap (X : Type 0) : Type 0 where
  pub front : List X
  pub back : List X
  pub room : ℕ

-- the list on both sides of the gap
abbrev pub joined : {X : Type 0} → Gap X → List X
joined g = g.front ++ g.back
