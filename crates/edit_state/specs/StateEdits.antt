-- What edits and cuts make of an edit state.
use Rattle.std.specs.Prelude.{ℕ, ◌+◌, ◌*◌, ◌<◌, ◌==◌, nat_lt, false, List, length, slice_range, if◌then◌else◌}
use Rattle.std.specs.List.{repeat}
use Rattle.edit_buffer.specs.declared.edits.Edit.{Edit}
use Rattle.edit_buffer.specs.declared.edits.Edit.TheVariants.{Insert, Delete, Cursor}
use Rattle.edit_buffer.specs.declared.rings.Clip.{Clip}
use Rattle.edit_buffer.specs.Edits.{applied}
use Rattle.edit_buffer.specs.Rings.{with_clip}
use Rattle.edit_state.specs.declared.states.EditState.{EditState}

-- the state after an edit of the document
abbrev pub edited_state : EditState → Edit → EditState
edited_state s edit = record s { buffer = applied s.buffer edit }

-- the state with the cursor at this place
abbrev pub gone_to : EditState → ℕ → EditState
gone_to s at = edited_state s (Cursor at)

-- the text would be too long with these characters this many times
abbrev pub IsTooLong : EditState → List ℕ → ℕ → Type 0
IsTooLong s chars times = 32768 < length s.buffer.doc.text + times * length chars

-- the state with these characters this many times at the cursor, or as it was where the text would be too long
abbrev pub inserted_times : EditState → List ℕ → ℕ → EditState
inserted_times s chars times =
    if nat_lt 32768 (length s.buffer.doc.text + times * length chars) then s else edited_state s (Insert (repeat times chars))

-- the state without a range, and with a clip on the ring
abbrev pub killed : EditState → ℕ → ℕ → Clip → EditState
killed s from to clip = record s { buffer = applied s.buffer (Delete from to); ring = with_clip s.ring clip }

-- a clip of the characters of a range
abbrev pub clip_of : EditState → ℕ → ℕ → Clip
clip_of s from to = record { text = slice_range s.buffer.doc.text from to; lines = false }

-- the state without a range, whose text is put on the ring; cutting an empty range changes nothing
abbrev pub cut : EditState → ℕ → ℕ → EditState
cut s from to = if from == to then s else killed s from to (clip_of s from to)
