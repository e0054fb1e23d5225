-- The rows of Emacs keys that delete and leave the ring.
use Rattle.std.specs.Prelude.{◌≡◌, ℕ, ◌+◌, ◌-◌, min, length}
use Rattle.text_doc.specs.Document.{Document}
use Rattle.edit_buffer.specs.declared.edits.Edit.TheVariants.{Delete}
use Rattle.edit_state.specs.declared.states.EditState.{EditState}
use Rattle.edit_state.specs.declared.arguments.Amount.{Amount}
use Rattle.edit_state.specs.declared.arguments.Amount.TheVariants.{Forward, Backward}
use Rattle.edit_state.specs.Arguments.{turned}
use Rattle.edit_state.specs.StateEdits.{edited_state}
use Rattle.edit_cmds.specs.Moving.{amount}

-- where a deletion of so many characters begins, and where it ends: at the cursor, or that far from it, or fewer
abbrev pub first_of : Document → Amount → ℕ
first_of d (Forward count) = d.cursor
first_of d (Backward count) = d.cursor - count

abbrev pub end_of : Document → Amount → ℕ
end_of d (Forward count) = min (d.cursor + count) (length d.text)
end_of d (Backward count) = d.cursor

-- so many characters are deleted, or fewer where there are fewer
abbrev pub chars_deleted : Amount → EditState → EditState
chars_deleted amount s = edited_state s (Delete (first_of s.buffer.doc amount) (end_of s.buffer.doc amount))

abbrev pub IsNothing : Amount → EditState → Type 0
IsNothing amount s = first_of s.buffer.doc amount ≡ end_of s.buffer.doc amount

abbrev pub delete_char : EditState → EditState
delete_char s = chars_deleted (amount s) s

abbrev pub backward_delete_char : EditState → EditState
backward_delete_char s = chars_deleted (turned (amount s)) s
