-- How room is divided: two stages that give turns in one order, until the sum of the sizes is reached.

use Rattle.std.specs.Prelude.{◌≡◌, ◌≢◌, ℕ, ◌+◌, ◌-◌, ◌≤◌, ◌<◌, Bool, true, false, List, map, sum, min, length, slice_index}
use Rattle.std.specs.List.{range_with_len}
use Rattle.layout_dims.specs.Numbers.{Numbers}
use Rattle.layout_dims.specs.Turns.{turns}

-- the sizes after T turns of a stage that began after `from` turns: each child has its start and its turns, up to its cap
unfoldable pub sizes_after : List ℕ → List ℕ → List ℕ → ℕ → ℕ → List ℕ
sizes_after weights starts caps from T =
    map (λ i. min (slice_index caps i) (slice_index starts i + (turns weights i T - turns weights i from)))
    (range_with_len 0 (length weights))

-- T is the least number of turns, from `from` on, whose sizes have this sum, and these are the sizes
pub record IsStage (weights starts caps : List ℕ) (from goal T : ℕ) (sizes : List ℕ) : Type 0 where
  pub not_before : from ≤ T
  pub after_turns : sizes ≡ sizes_after weights starts caps from T
  pub reached : sum sizes ≡ goal
  pub least : (t : ℕ) → from ≤ t → t < T → sum (sizes_after weights starts caps from t) ≢ goal

-- a stage ends with the lesser of the room and the sum of its caps
abbrev pub goal_of : ℕ → List ℕ → ℕ
goal_of room caps = min room (sum caps)

-- the sizes at the end: those of the first stage where the split is done, else those of a second stage that goes on from there
abbrev pub EndsWith : Bool → List ℕ → List ℕ → ℕ → ℕ → List ℕ → List ℕ → Type 0
EndsWith true weights maxima room U first sizes = sizes ≡ first
EndsWith false weights maxima room U first sizes =
    (T : ℕ) × IsStage weights first maxima U (goal_of room maxima) T sizes

-- both stages: the first grows the minima to at most the preferred sizes, by U turns
pub record Stages (weights minima preferred maxima : List ℕ) (room : ℕ) (done : Bool) (sizes : List ℕ) : Type 0 where
  pub U : ℕ
  pub first : List ℕ
  pub first_stage : IsStage weights minima preferred 0 (goal_of room preferred) U first
  pub ends : EndsWith done weights maxima room U first sizes

-- the parts' weights
abbrev pub weights_of : List Numbers → List ℕ
weights_of parts = map (λ p. p.weight) parts

-- their minima, where sizes start
abbrev pub minima_of : List Numbers → List ℕ
minima_of parts = map (λ p. p.minimum) parts

-- their preferred sizes, the caps of the first stage
abbrev pub preferred_of : List Numbers → List ℕ
preferred_of parts = map (λ p. p.preferred) parts

-- their maxima, the caps of the second stage
abbrev pub maxima_of : List Numbers → List ℕ
maxima_of parts = map (λ p. p.maximum) parts

-- the division of the room among the parts
abbrev pub Division : List Numbers → ℕ → Bool → List ℕ → Type 0
Division parts room done sizes = Stages (weights_of parts) (minima_of parts) (preferred_of parts) (maxima_of parts) room done sizes

-- the caps of the last stage
abbrev pub caps_of : Bool → List Numbers → List ℕ
caps_of true parts = preferred_of parts
caps_of false parts = maxima_of parts

-- there is a size for each child, from its low to its high number
pub record IsBetween (low high sizes : List ℕ) : Type 0 where
  pub one_each : length sizes ≡ length low
  pub above : (i : ℕ) → i < length sizes → slice_index low i ≤ slice_index sizes i
  pub below : (i : ℕ) → i < length sizes → slice_index sizes i ≤ slice_index high i
