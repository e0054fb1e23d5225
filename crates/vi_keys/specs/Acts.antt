-- What the effects of commands make of an edit state.
use Rattle.std.specs.Prelude.{ℕ, ◌+◌, ◌-◌, ◌≤◌, ◌==◌, List, length, None, Some, if◌then◌else◌}
use Rattle.text_doc.specs.Document.{Document}
use Rattle.edit_buffer.specs.declared.edits.Edit.TheVariants.{Replace, Mark}
use Rattle.edit_buffer.specs.declared.rings.Clip.{Clip}
use Rattle.edit_buffer.specs.Rings.{with_clip}
use Rattle.edit_buffer.specs.Undo.{undone, redone}
use Rattle.edit_state.specs.declared.states.EditState.{EditState}
use Rattle.edit_state.specs.Arguments.{with_digit}
use Rattle.edit_state.specs.StateEdits.{edited_state, gone_to, killed}
use Rattle.edit_state.specs.RowMoves.{rows_up, rows_down}
use Rattle.edit_state.specs.AutoMoves.{auto_up, auto_down}
use Rattle.vi_keys.specs.declared.acts.Act.{Act}
use Rattle.vi_keys.specs.declared.acts.Act.TheVariants.{Stay, Go, RowsDown, RowsUp, AutoDown, AutoUp, Exchange, Remove, Put, Undo, Redo, Digit}
use Rattle.vi_keys.specs.declared.acts.Marks.{Marks}
use Rattle.vi_keys.specs.declared.acts.Marks.TheVariants.{Keep, Clear, Set}

-- the state with a text in place of a range, and the cursor at this place
abbrev pub exchanged : EditState → ℕ → ℕ → List ℕ → ℕ → EditState
exchanged s from to text at = gone_to (edited_state s (Replace from to text)) at

-- the state without a range, with a clip on the ring, and the cursor at this place; an empty range changes nothing
abbrev pub removed : EditState → ℕ → ℕ → ℕ → Clip → EditState
removed s from to at clip = if from == to then s else gone_to (killed s from to clip) at

-- the state with a clip on the ring, and the cursor at this place
abbrev pub put_at : EditState → ℕ → Clip → EditState
put_at s at clip = record (gone_to s at) { ring = with_clip s.ring clip }

-- the state after an effect
abbrev pub acted : Act → EditState → EditState
acted Stay s = s
acted (Go at) s = gone_to s at
acted (RowsDown count) s = rows_down s count
acted (RowsUp count) s = rows_up s count
acted (AutoDown count) s = auto_down s count
acted (AutoUp count) s = auto_up s count
acted (Exchange from to text at) s = exchanged s from to text at
acted (Remove from to at clip) s = removed s from to at clip
acted (Put at clip) s = put_at s at clip
acted Undo s = record s { buffer = undone s.buffer }
acted Redo s = record s { buffer = redone s.buffer }
acted (Digit c) s = record s { arg = Some (with_digit s.arg c) }

-- the state with another mark or none
abbrev pub marked : Marks → EditState → EditState
marked Keep s = s
marked Clear s = edited_state s (Mark None)
marked Set s = edited_state s (Mark (Some s.buffer.doc.cursor))

-- the effect names places of the document, and its text finds room
abbrev pub FitsAct : Act → Document → Type 0
FitsAct (Go at) d = at ≤ length d.text
FitsAct (Exchange from to text at) d =
    (from ≤ to) × ((to ≤ length d.text) × ((length d.text - (to - from) + length text ≤ 32768) × (at ≤ from + length text)))
FitsAct (Remove from to at clip) d = (from ≤ to) × ((to ≤ length d.text) × (at ≤ from))
FitsAct (Put at clip) d = at ≤ length d.text
FitsAct _ d = Unit {0}
