-- The rows of Emacs keys that move the cursor, and those that select by a move.
use Rattle.std.specs.Prelude.{ℕ, false, Option, None, Some}
use Rattle.text_doc.specs.Rows.{line_start, line_end}
use Rattle.edit_buffer.specs.declared.edits.Edit.TheVariants.{Mark}
use Rattle.edit_state.specs.declared.states.EditState.{EditState}
use Rattle.edit_state.specs.declared.arguments.Amount.{Amount}
use Rattle.edit_state.specs.Arguments.{amount_in, count_of, turned}
use Rattle.edit_state.specs.StateEdits.{edited_state, gone_to}
use Rattle.edit_state.specs.CharMoves.{place_by_chars}
use Rattle.edit_state.specs.WordMoves.{words_back, word_ends_ahead}
use Rattle.edit_state.specs.RowMoves.{rows_up, rows_down}

-- what the argument amounts to, and how often something is done at least once
abbrev pub amount : EditState → Amount
amount s = amount_in s.arg

abbrev pub count : EditState → ℕ
count s = count_of (amount s)

abbrev pub beginning_of_line : EditState → EditState
beginning_of_line s = gone_to s (line_start s.buffer.doc.text s.buffer.doc.cursor)

abbrev pub end_of_line : EditState → EditState
end_of_line s = gone_to s (line_end s.buffer.doc.text s.buffer.doc.cursor)

abbrev pub backward_char : EditState → EditState
backward_char s = gone_to s (place_by_chars s.buffer.doc (turned (amount s)))

abbrev pub forward_char : EditState → EditState
forward_char s = gone_to s (place_by_chars s.buffer.doc (amount s))

abbrev pub backward_word : EditState → EditState
backward_word s = gone_to s (words_back false s.buffer.doc (count s))

abbrev pub forward_word : EditState → EditState
forward_word s = gone_to s (word_ends_ahead false s.buffer.doc (count s))

-- the mark is at the cursor
abbrev pub set_mark : EditState → EditState
set_mark s = edited_state s (Mark (Some s.buffer.doc.cursor))

-- the mark is at the cursor where none is set
abbrev pub mark_unless : Option ℕ → EditState → EditState
mark_unless None s = set_mark s
mark_unless (Some at) s = s

abbrev pub marked : EditState → EditState
marked s = mark_unless s.buffer.doc.mark s

abbrev pub select_left : EditState → EditState
select_left s = backward_char (marked s)

abbrev pub select_right : EditState → EditState
select_right s = forward_char (marked s)

abbrev pub select_up : EditState → EditState
select_up s = rows_up (marked s) (count s)

abbrev pub select_down : EditState → EditState
select_down s = rows_down (marked s) (count s)
