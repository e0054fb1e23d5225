-- The marks so far, with those of what is left of the text, are its marks; what was met stands before the place in the old text.
use Rattle.std.proofs.Common.{◌≡◌, ℕ, ◌+◌, ◌-◌, ◌<◌, ◌≤◌, ◌++◌, drop, length, slice_index_or}
use Rattle.text_rows.specs.declared.marks.Mark.{Mark}
use Rattle.text_rows.specs.Flows.{marks_from, room_at}
use Rattle.text_rows.proofs.layings.lay_on.Given as goal

abbrev pub invariant-loop-at : goal.invariant-loop-at
invariant-loop-at l = record {
  within : l.at ≤ length l.text;
  met_few : l.met ≤ length l.known;
  met : (i : ℕ) (other : Mark) → i < l.met → (slice_index_or l.known i other).place + length l.text < l.at + length l.old;
  marks : l.marks.items ++ marks_from l.ground.width l.ground.under l.room l.at (drop l.at l.text) ≡ marks_from l.ground.width l.ground.under l.ground.room 0 l.text;
  room : room_at l.ground.width l.ground.under l.room (drop l.at l.text) ≡ room_at l.ground.width l.ground.under l.ground.room l.text;
}

abbrev pub decreases-loop-at : goal.decreases-loop-at
decreases-loop-at l = length l.text - l.at
