-- The rows of Emacs keys that insert clips of the ring.
use Rattle.std.specs.Prelude.{ℕ, ◌+◌, ◌<◌, ◌==◌, nat_lt, Bool, ◌||◌, List, length, slice_get, Option, None, Some, ◌*◌, if◌then◌else◌}
use Rattle.std.specs.List.{repeat}
use Rattle.text_doc.specs.Document.{Document}
use Rattle.text_doc.specs.Edits.{inserted}
use Rattle.edit_buffer.specs.declared.edits.Edit.TheVariants.{Insert, Whole}
use Rattle.edit_buffer.specs.declared.rings.Clip.{Clip}
use Rattle.edit_buffer.specs.Rings.{rotated}
use Rattle.edit_state.specs.declared.states.EditState.{EditState}
use Rattle.edit_state.specs.declared.commands.Command.TheVariants.{Yank, YankPop}
use Rattle.edit_state.specs.StateEdits.{edited_state, IsTooLong}
use Rattle.edit_cmds.specs.Inserting.{times_in}
use Rattle.edit_cmds.specs.Killing.{repeats, text_of}

-- characters are inserted this many times, and the document from before is kept; where they find no room all stays
abbrev pub pasted : List ℕ → ℕ → EditState → EditState
pasted text times s =
    if nat_lt 32768 (length s.buffer.doc.text + times * length text) then s
    else record (edited_state s (Insert (repeat times text))) { before_paste = Some s.buffer.doc }

-- a clip is inserted as often as the argument says, if there is one, and not at all by a negative argument
abbrev pub yank_of : Option Clip → EditState → EditState
yank_of None s = s
yank_of (Some clip) s = if times_in s == 0 then s else pasted clip.text (times_in s) s

abbrev pub yank : EditState → EditState
yank s = yank_of (slice_get s.ring 0) s

abbrev pub IsYankTooLong : Option Clip → EditState → Type 0
IsYankTooLong None s = ⊥
IsYankTooLong (Some clip) s = IsTooLong s clip.text (times_in s)

-- the text of the clip that is first after a rotation
abbrev pub next_text : List Clip → List ℕ
next_text ring = text_of (slice_get (rotated ring) 0)

-- the ring is rotated, and its first clip inserted once into the document from before the paste
abbrev pub popped_from : Option Document → EditState → EditState
popped_from None s = s
popped_from (Some before) s =
    if nat_lt 32768 (length before.text + length (next_text s.ring)) then s
    else record (edited_state s (Whole (inserted before (next_text s.ring)))) { ring = rotated s.ring }

abbrev pub IsPopTooLong : Option Document → EditState → Type 0
IsPopTooLong None s = ⊥
IsPopTooLong (Some before) s = 32768 < length before.text + length (next_text s.ring)

-- the command before was yank or yank-pop
abbrev pub follows_paste : EditState → Bool
follows_paste s = repeats Yank s || repeats YankPop s

abbrev pub yank_pop : EditState → EditState
yank_pop s = if follows_paste s then popped_from s.before_paste s else s
