-- The order in which the children of a split get their turns, by their weights alone.

use Rattle.std.specs.Prelude.{ℕ, ◌+◌, ◌-◌, ◌*◌, ◌/◌, ◌==◌, ◌<◌, ◌≤◌, Bool, List, ◌++◌, filter, count_by, flat_map, take, length, slice_index}
use Rattle.std.specs.List.{list_any, range_with_len}
use Rattle.layout_dims.specs.Numbers.{greatest}

-- the round of the k-th turn of a child of this weight, where m is the greatest weight
abbrev pub round_of : ℕ → ℕ → ℕ → ℕ
round_of m weight k = (k - 1) * m / weight + 1

-- some turn of a child of this weight stands in this round; it is one of the first `round` turns
abbrev pub takes_turn : ℕ → ℕ → ℕ → Bool
takes_turn m weight round = list_any (λ k. round_of m weight k == round) (range_with_len 1 round)

-- the children with a turn in this round, in their order
abbrev pub children_in : List ℕ → ℕ → List ℕ
children_in weights round =
    filter (λ i. takes_turn (greatest weights) (slice_index weights i) round) (range_with_len 0 (length weights))

-- the turns of the first rounds, each as the child that gets it: by round, then by child
unfoldable pub turn_order : List ℕ → ℕ → List ℕ
turn_order weights rounds = flat_map (children_in weights) (range_with_len 1 rounds)

-- how many of the first T turns are child i's; they stand in the first T rounds, as no round is empty
unfoldable pub turns : List ℕ → ℕ → ℕ → ℕ
turns weights i T = count_by (λ child. child == i) (take T (turn_order weights T))

-- the turns before a place of the order: those of the rounds before, and of the children before in the round after these
unfoldable pub turns_before : List ℕ → ℕ → ℕ → List ℕ
turns_before weights rounds child =
    turn_order weights rounds ++ filter (λ i. takes_turn (greatest weights) (slice_index weights i) (rounds + 1)) (range_with_len 0 child)

-- how many turns these are
unfoldable pub turns_taken : List ℕ → ℕ → ℕ → ℕ
turns_taken weights rounds child = length (turns_before weights rounds child)

-- what holds of the weights of dimensions
pub record AreWeights (weights : List ℕ) : Type 0 where
  pub positive : (i : ℕ) → i < length weights → 0 < slice_index weights i
  pub small : greatest weights ≤ 1000
