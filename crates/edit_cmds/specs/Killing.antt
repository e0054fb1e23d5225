-- The rows of Emacs keys that cut, and those that put what is cut or selected on the ring.
use Rattle.std.specs.Prelude.{ℕ, ◌+◌, ◌-◌, min, max, ◌==◌, ◌&&◌, nat_lt, Bool, true, false, List, [], ◌++◌, length, slice_get, slice_range, Option, None, Some, if◌then◌else◌}
use Rattle.text_doc.specs.Rows.{line_start, line_end}
use Rattle.edit_buffer.specs.declared.edits.Edit.TheVariants.{Delete, Mark}
use Rattle.edit_buffer.specs.declared.rings.Clip.{Clip}
use Rattle.edit_buffer.specs.Rings.{with_clip}
use Rattle.edit_state.specs.declared.states.EditState.{EditState}
use Rattle.edit_state.specs.declared.arguments.Amount.{Amount}
use Rattle.edit_state.specs.declared.arguments.Amount.TheVariants.{Forward, Backward}
use Rattle.edit_state.specs.declared.commands.Command.{Command}
use Rattle.edit_state.specs.declared.commands.Command.TheVariants.{KillWord, BackwardKillWord, UnixWordRubout}
use Rattle.edit_state.specs.CommandNumbers.{number_of}
use Rattle.edit_state.specs.StateEdits.{edited_state, killed, cut}
use Rattle.edit_state.specs.WordMoves.{words_back, word_ends_ahead}
use Rattle.edit_cmds.specs.Moving.{amount, count}

-- by a negative argument the row up to the cursor, else a line feed at the cursor, else the row from the cursor on
abbrev pub line_killed : Amount → EditState → EditState
line_killed (Backward count) s = cut s (line_start s.buffer.doc.text s.buffer.doc.cursor) s.buffer.doc.cursor
line_killed (Forward count) s =
    let d = s.buffer.doc in
    if nat_lt d.cursor (length d.text) && line_end d.text d.cursor == d.cursor then cut s d.cursor (d.cursor + 1) else cut s d.cursor (line_end d.text d.cursor)

abbrev pub kill_line : EditState → EditState
kill_line s = line_killed (amount s) s

-- the row up to the cursor is cut; at the start of a row the line feed before it is deleted
abbrev pub unix_line_discard : EditState → EditState
unix_line_discard s =
    let d = s.buffer.doc in
    if nat_lt 0 d.cursor && line_start d.text d.cursor == d.cursor then edited_state s (Delete (d.cursor - 1) d.cursor) else cut s (line_start d.text d.cursor) d.cursor

-- the command before was this one
abbrev pub is_number : Option ℕ → ℕ → Bool
is_number None number = false
is_number (Some before) number = before == number

abbrev pub repeats : Command → EditState → Bool
repeats command s = is_number s.previous (number_of command)

-- the text of the first clip, where there is one and the command repeats
abbrev pub text_of : Option Clip → List ℕ
text_of None = []
text_of (Some clip) = clip.text

abbrev pub first_text : Command → EditState → List ℕ
first_text command s = if repeats command s then text_of (slice_get s.ring 0) else []

-- a range is deleted, and this text put; an empty range changes nothing
abbrev pub killed_as : ℕ → ℕ → List ℕ → EditState → EditState
killed_as from to text s = if from == to then s else killed s from to (record { text = text; lines = false })

-- the words behind the cursor are cut; a repeat puts them behind the first clip's text
abbrev pub kill_word : EditState → EditState
kill_word s =
    let d = s.buffer.doc in
    let to = word_ends_ahead false d (count s) in
    killed_as d.cursor to (first_text KillWord s ++ slice_range d.text d.cursor to) s

-- the words before the cursor are cut; a repeat puts them before the first clip's text
abbrev pub words_killed : Command → Bool → EditState → EditState
words_killed command big s =
    let d = s.buffer.doc in
    let from = words_back big d (count s) in
    killed_as from d.cursor (slice_range d.text from d.cursor ++ first_text command s) s

abbrev pub backward_kill_word : EditState → EditState
backward_kill_word s = words_killed BackwardKillWord false s

abbrev pub unix_word_rubout : EditState → EditState
unix_word_rubout s = words_killed UnixWordRubout true s

-- no mark is left
abbrev pub unmarked : EditState → EditState
unmarked s = edited_state s (Mark None)

-- what stands between this mark and the cursor is cut
abbrev pub cut_to_mark : Option ℕ → EditState → EditState
cut_to_mark None s = s
cut_to_mark (Some mark) s = unmarked (cut s (min mark s.buffer.doc.cursor) (max mark s.buffer.doc.cursor))

abbrev pub cut_selection : EditState → EditState
cut_selection s = cut_to_mark s.buffer.doc.mark s

-- what stands between this mark and the cursor is put on the ring
abbrev pub copied_to_mark : Option ℕ → EditState → EditState
copied_to_mark None s = s
copied_to_mark (Some mark) s =
    let d = s.buffer.doc in
    record (unmarked s) { ring = with_clip s.ring (record { text = slice_range d.text (min mark d.cursor) (max mark d.cursor); lines = false }) }

abbrev pub copy_selection : EditState → EditState
copy_selection s = copied_to_mark s.buffer.doc.mark s
