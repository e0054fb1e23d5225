-- A contract sees a dimension as its four numbers; sizes are in columns or rows.

use Rattle.std.specs.Prelude.{ℕ, ◌≤◌, List, fold, map, sum_by, min, max}

-- how much room a child asks for, and how fast it grows beside the others
pub record Numbers : Type 0 where
  pub minimum : ℕ
  pub maximum : ℕ
  pub weight : ℕ
  pub preferred : ℕ

-- what holds of the numbers of every dimension
pub record IsDimension (d : Numbers) : Type 0 where
  pub above_minimum : d.minimum ≤ d.preferred
  pub below_maximum : d.preferred ≤ d.maximum
  pub maximum_in : d.maximum ≤ 1000000
  pub weight_above : 1 ≤ d.weight
  pub weight_in : d.weight ≤ 1000

-- the number nearest to n from low to high
abbrev pub brought_into : ℕ → ℕ → ℕ → ℕ
brought_into low high n = max (min n high) low

-- the greatest of the numbers, 0 where there are none
abbrev pub greatest : List ℕ → ℕ
greatest numbers = fold max 0 numbers

-- the dimension of all the parts side by side: sums of at most 1,000,000, and weight 1
abbrev pub sum_of : List Numbers → Numbers
sum_of parts = record {
  minimum = min 1000000 (sum_by (λ p. p.minimum) parts);
  maximum = min 1000000 (sum_by (λ p. p.maximum) parts);
  weight = 1;
  preferred = min 1000000 (sum_by (λ p. p.preferred) parts);
}

-- the dimension of all the parts in one place: the greatest of each size, and weight 1
abbrev pub largest_of : List Numbers → Numbers
largest_of parts = record {
  minimum = greatest (map (λ p. p.minimum) parts);
  maximum = greatest (map (λ p. p.maximum) parts);
  weight = 1;
  preferred = greatest (map (λ p. p.preferred) parts);
}
