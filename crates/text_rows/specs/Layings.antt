-- What the contracts inside this crate see of a laying: where it begins, and a mark that it meets.
use Rattle.std.specs.Prelude.{◌≡◌, ℕ, ◌<◌, ◌≤◌, List, length, slice_index_or, take}
use Rattle.text_rows.specs.declared.layings.Ground.{Ground}
use Rattle.text_rows.specs.declared.marks.Mark.{Mark}
use Rattle.text_rows.specs.Flows.{marks_from, room_at}

-- at a place of the text there is this room, and so many of its marks stand before it
pub record StartsAt (ground : Ground) (text : List ℕ) (marks : List Mark) (place room count : ℕ) : Type 0 where
  pub within : place ≤ length text
  pub few : count ≤ length marks
  pub front : take count marks ≡ marks_from ground.width ground.under ground.room 0 (take place text)
  pub room_is : room ≡ room_at ground.width ground.under ground.room (take place text)

-- the mark with this number has this place and this room
pub record IsMarkAt (marks : List Mark) (at place room : ℕ) : Type 0 where
  pub within : at < length marks
  pub place_is : (other : Mark) → (slice_index_or marks at other).place ≡ place
  pub room_is : (other : Mark) → (slice_index_or marks at other).room ≡ room
