-- What a stage keeps while it gives turns.

use Rattle.std.specs.Prelude.{◌≡◌, ◌⊎◌, ℕ, ◌+◌, ◌<◌, ◌≤◌, List, sum, length, slice_index}
use Rattle.layout_dims.specs.Turns.{turns}
use Rattle.layout_dims.specs.Division.{sizes_after}

-- after T turns these are the sizes, and after fewer the sum was below the goal
pub record Grows (weights starts caps : List ℕ) (from T : ℕ) (sizes : List ℕ) (goal : ℕ) : Type 0 where
  pub one_each : length sizes ≡ length weights
  pub not_before : from ≤ T
  pub turns_rise : (i : ℕ) → turns weights i from ≤ turns weights i T
  pub after_turns : sizes ≡ sizes_after weights starts caps from T
  pub short : (t : ℕ) → from ≤ t → t < T → sum (sizes_after weights starts caps from t) < goal

-- the place behind child c of the round after r: the next child, or the next round
abbrev pub IsNext : ℕ → ℕ → ℕ → ℕ → ℕ → Type 0
IsNext children r c r' c' = ((c ≡ children) × (r' ≡ r + 1) × (c' ≡ 0)) ⊎ ((c < children) × (r' ≡ r) × (c' ≡ c + 1))

-- sizes of which each is within its cap, so that a stage can begin with them
pub record CanGrow (weights starts caps : List ℕ) (goal : ℕ) : Type 0 where
  pub one_start : length starts ≡ length weights
  pub one_cap : length caps ≡ length weights
  pub below_caps : (i : ℕ) → i < length weights → slice_index starts i ≤ slice_index caps i
  pub goal_above : sum starts ≤ goal
  pub goal_reachable : goal ≤ sum caps
  pub goal_small : goal ≤ 1000
