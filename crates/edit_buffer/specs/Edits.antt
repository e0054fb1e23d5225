-- What an edit makes of the document, and so of the present working line.
use Rattle.std.specs.Prelude.{◌≡◌, ℕ, ◌+◌, ◌-◌, ◌<◌, ◌≤◌, Bool, false, not, ◌||◌, ◌==◌, nat_lt, ◌↔◌, ◌++◌, List, length, take, drop, if◌then◌else◌, option_map}
use Rattle.std.specs.Option.{ForSome}
use Rattle.text_doc.specs.Document.{Document}
use Rattle.text_doc.specs.Edits.{inserted, mark_after_insert, deleted, place_after_delete}
use Rattle.edit_buffer.specs.declared.edits.Applied.{Applied}
use Rattle.edit_buffer.specs.declared.edits.Edit.{Edit}
use Rattle.edit_buffer.specs.declared.edits.Edit.TheVariants.{Insert, Delete, Replace, Cursor, Mark, Whole}
use Rattle.edit_buffer.specs.BufferState.{BufferState, with_document}

-- the cursor after `count` characters took the place of a range: behind them where it was in the range or at an end of it
abbrev pub cursor_after_replace : ℕ → ℕ → ℕ → ℕ → ℕ
cursor_after_replace from to count place =
    if nat_lt place from then place else (if nat_lt to place then place - to + (from + count) else from + count)

-- the mark after that: it stays where the lengths are equal, and else moves as by a deletion and then an insertion
abbrev pub mark_after_replace : ℕ → ℕ → ℕ → ℕ → ℕ
mark_after_replace from to count m =
    if count == to - from then m else mark_after_insert from count (place_after_delete from to m)

-- the text with these characters in place of those from `from` up to and without `to`
abbrev pub text_replaced : List ℕ → ℕ → ℕ → List ℕ → List ℕ
text_replaced text from to chars = take from text ++ chars ++ drop to text

-- the document with these characters in place of a range
abbrev pub replaced : Document → ℕ → ℕ → List ℕ → Document
replaced d from to chars = record {
  text = text_replaced d.text from to chars;
  cursor = cursor_after_replace from to (length chars) d.cursor;
  mark = option_map (mark_after_replace from to (length chars)) d.mark;
}

abbrev pub edited : Edit → Document → Document
edited (Insert chars) d = inserted d chars
edited (Delete from to) d = deleted d from to
edited (Replace from to chars) d = replaced d from to chars
edited (Cursor at) d = record d { cursor = at }
edited (Mark at) d = record d { mark = at }
edited (Whole whole) d = whole

-- the edit names places of the document
abbrev pub FitsDocument : Edit → Document → Type 0
FitsDocument (Delete from to) d = (from ≤ to) × (to ≤ length d.text)
FitsDocument (Replace from to chars) d = (from ≤ to) × (to ≤ length d.text)
FitsDocument (Cursor at) d = at ≤ length d.text
FitsDocument (Mark at) d = ForSome at (λ place. place ≤ length d.text)
FitsDocument (Insert chars) d = Unit {0}
FitsDocument (Whole whole) d = Unit {0}

-- the edit would make the text too long
abbrev pub MakesTooLong : Edit → Document → Type 0
MakesTooLong (Insert chars) d = 32768 < length d.text + length chars
MakesTooLong (Replace from to chars) d = 32768 < length d.text - (to - from) + length chars
MakesTooLong (Whole whole) d = 32768 < length whole.text
MakesTooLong (Delete from to) d = ⊥
MakesTooLong (Cursor at) d = ⊥
MakesTooLong (Mark at) d = ⊥

-- the edit asks for no memory
abbrev pub TakesNoMemory : Edit → Type 0
TakesNoMemory (Insert chars) = ⊥
TakesNoMemory (Replace from to chars) = ⊥
TakesNoMemory (Delete from to) = Unit {0}
TakesNoMemory (Cursor at) = Unit {0}
TakesNoMemory (Mark at) = Unit {0}
TakesNoMemory (Whole whole) = Unit {0}

-- the answer says exactly which of text, cursor and mark differ from before
pub record TellsChanges (answer : Applied) (before after : Document) : Type 0 where
  pub text : (answer.text ≡ false) ↔ (after.text ≡ before.text)
  pub cursor : (answer.cursor ≡ false) ↔ (after.cursor ≡ before.cursor)
  pub mark : (answer.mark ≡ false) ↔ (after.mark ≡ before.mark)

-- an answer by which nothing differs
abbrev pub is_same : Applied → Bool
is_same answer = not (answer.text || answer.cursor || answer.mark)

-- the buffer after an edit
abbrev pub applied : BufferState → Edit → BufferState
applied b edit = with_document b (edited edit b.doc)
