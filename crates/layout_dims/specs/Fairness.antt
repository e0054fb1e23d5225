-- When children of equal weights have been treated alike.

use Rattle.std.specs.Prelude.{◌≡◌, ℕ, ◌+◌, ◌<◌, ◌≤◌, List, length, slice_index}

-- the weights are all one number
pub record AreEqual (weights : List ℕ) : Type 0 where
  pub same : (i j : ℕ) → i < length weights → j < length weights → slice_index weights i ≡ slice_index weights j

-- of two children below their caps neither has grown by two turns more than the other
pub record IsFair (starts caps sizes : List ℕ) : Type 0 where
  pub near : (i j : ℕ) → i < length sizes → j < length sizes → slice_index sizes i < slice_index caps i → slice_index sizes j < slice_index caps j → slice_index sizes i + slice_index starts j ≤ slice_index sizes j + slice_index starts i + 1
