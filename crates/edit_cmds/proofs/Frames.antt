-- What no row touches, and what only some rows do.
use Rattle.std.proofs.Common.{◌≡◌, ℕ, Bool, true, false, List, [], ◌∷◌, Option, None, Some, refl, ◌∙◌}
use Rattle.std.specs.Prelude.{if◌then◌else◌, ◌==◌, nat_lt, ◌&&◌, ◌*◌, ◌+◌, length, is_some, min, max}
use Rattle.text_doc.specs.Document.{Document}
use Rattle.text_doc.specs.Rows.{line_start, line_end}
use Rattle.key_names.specs.declared.key.Key.{Key}
use Rattle.key_names.specs.declared.key.Key.TheVariants.{Char}
use Rattle.edit_buffer.specs.BufferState.{BufferState}
use Rattle.edit_buffer.specs.Moves.{can_go_back, can_go_forward}
use Rattle.edit_buffer.specs.declared.menus.Menu.{Menu}
use Rattle.edit_buffer.specs.declared.rings.Clip.{Clip}
use Rattle.edit_state.specs.declared.states.EditState.{EditState}
use Rattle.edit_state.specs.declared.arguments.Amount.{Amount}
use Rattle.edit_state.specs.declared.arguments.Amount.TheVariants.{Forward, Backward}
use Rattle.text_doc.specs.Edits.{inserted}
use Rattle.edit_buffer.specs.declared.edits.Edit.TheVariants.{Whole}
use Rattle.edit_buffer.specs.Rings.{rotated}
use Rattle.edit_state.specs.StateEdits.{edited_state, cut, inserted_times}
use Rattle.edit_state.specs.RowMoves.{moved_to_row}
use Rattle.edit_state.specs.HistoryMoves.{lines_back, lines_forward}
use Rattle.edit_state.specs.MenuMoves.{chosen_steps}
use Rattle.edit_state.specs.AutoMoves.{row_or_line, unless_menu}
use Rattle.edit_cmds.specs.declared.leaving.Keeps.{Keeps}
use Rattle.edit_cmds.specs.Leaving.{LeavesAlone}
use Rattle.edit_cmds.specs.Moving.{mark_unless}
use Rattle.edit_cmds.specs.Inserting.{self_insert, suggestion_in}
use Rattle.edit_cmds.specs.Killing.{line_killed, unix_line_discard, killed_as, cut_to_mark, copied_to_mark}
use Rattle.edit_cmds.specs.Restoring.{cancelled_by}
use Rattle.edit_cmds.specs.Rewriting.{transposed_at}
use Rattle.edit_cmds.specs.Pasting.{next_text, popped_from}

-- all but the buffer and the ring are as before, but that a column may be forgotten
pub record Quiet (s t : EditState) : Type 0 where
  pub previous : t.previous ≡ s.previous
  pub argument : t.arg ≡ s.arg
  pub column : s.column ≡ None → t.column ≡ None
  pub paste : t.before_paste ≡ s.before_paste
  pub search : t.search ≡ s.search

pub quiet : (s : EditState) (b : BufferState) (ring : List Clip) → Quiet s (record s { buffer = b; ring = ring })
quiet s b ring = record { previous = refl; argument = refl; column = λ e. e; paste = refl; search = refl }

pub quiet_self : (s : EditState) → Quiet s s
quiet_self s = record { previous = refl; argument = refl; column = λ e. e; paste = refl; search = refl }

pub quiet_if : (b : Bool) (s t u : EditState) → Quiet s t → Quiet s u → Quiet s (if b then t else u)
quiet_if true s t u first second = first
quiet_if false s t u first second = second

pub quiet_then : (s t u : EditState) → Quiet s t → Quiet t u → Quiet s u
quiet_then s t u first second = record {
  previous = second.previous ∙ first.previous;
  argument = second.argument ∙ first.argument;
  column = λ e. second.column (first.column e);
  paste = second.paste ∙ first.paste;
  search = second.search ∙ first.search;
}

pub alone_of_quiet : (keeps : Keeps) (s t : EditState) → Quiet s t → LeavesAlone keeps s t
alone_of_quiet keeps s t q = record {
  previous = q.previous;
  argument = λ e none. q.argument ∙ none;
  column = λ e. q.column;
  paste = λ e none. q.paste ∙ none;
}

-- an insertion, and what inserts by one
pub quiet_inserted : (s : EditState) (chars : List ℕ) (times : ℕ) → Quiet s (inserted_times s chars times)
quiet_inserted s chars times = quiet_if (nat_lt 32768 (length s.buffer.doc.text + times * length chars)) s s _ (quiet_self s) (quiet s _ _)

pub quiet_self_insert : (key : Key) (s : EditState) → Quiet s (self_insert key s)
quiet_self_insert (Char c) s = quiet_inserted s (c ∷ []) _
quiet_self_insert _ s = quiet_self s

pub quiet_suggestion : (text : Option (List ℕ)) (s : EditState) → Quiet s (suggestion_in text s)
quiet_suggestion None s = quiet_self s
quiet_suggestion (Some text) s = quiet_inserted s text 1

-- cuts
pub quiet_cut : (s : EditState) (from to : ℕ) → Quiet s (cut s from to)
quiet_cut s from to = quiet_if (from == to) s s _ (quiet_self s) (quiet s _ _)

pub quiet_killed_as : (from to : ℕ) (text : List ℕ) (s : EditState) → Quiet s (killed_as from to text s)
quiet_killed_as from to text s = quiet_if (from == to) s s _ (quiet_self s) (quiet s _ _)

pub quiet_line_killed : (amount : Amount) (s : EditState) → Quiet s (line_killed amount s)
quiet_line_killed (Backward n) s = quiet_cut s _ _
quiet_line_killed (Forward n) s =
    let d = s.buffer.doc in
    quiet_if (nat_lt d.cursor (length d.text) && line_end d.text d.cursor == d.cursor) s _ _ (quiet_cut s _ _) (quiet_cut s _ _)

pub quiet_discard : (s : EditState) → Quiet s (unix_line_discard s)
quiet_discard s =
    let d = s.buffer.doc in
    quiet_if (nat_lt 0 d.cursor && line_start d.text d.cursor == d.cursor) s _ _ (quiet s _ _) (quiet_cut s _ _)

pub quiet_cut_to_mark : (mark : Option ℕ) (s : EditState) → Quiet s (cut_to_mark mark s)
quiet_cut_to_mark None s = quiet_self s
quiet_cut_to_mark (Some mark) s =
    let first = cut s (min mark s.buffer.doc.cursor) (max mark s.buffer.doc.cursor) in
    quiet_then s first _ (quiet_cut s _ _) (quiet first _ _)

pub quiet_copied : (mark : Option ℕ) (s : EditState) → Quiet s (copied_to_mark mark s)
quiet_copied None s = quiet_self s
quiet_copied (Some mark) s = quiet s _ _

-- other characters in place of some
pub quiet_transposed : (place : Option ℕ) (s : EditState) → Quiet s (transposed_at place s)
quiet_transposed None s = quiet_self s
quiet_transposed (Some at) s = quiet s _ _

pub quiet_popped : (before : Option Document) (s : EditState) → Quiet s (popped_from before s)
quiet_popped None s = quiet_self s
quiet_popped (Some before) s =
    let put = edited_state s (Whole (inserted before (next_text s.ring))) in
    quiet_if (nat_lt 32768 (length before.text + length (next_text s.ring))) s s (record put { ring = rotated s.ring }) (quiet_self s) (quiet s put.buffer (rotated s.ring))

pub quiet_cancelled : (menu : Option Menu) (s : EditState) → Quiet s (cancelled_by menu s)
quiet_cancelled None s = quiet s _ _
quiet_cancelled (Some m) s = quiet s _ _

-- steps through the history and choices forget the column
pub quiet_back : (s : EditState) (count : ℕ) → Quiet s (lines_back s count)
quiet_back s count = quiet_if (can_go_back s.buffer count) s _ s (record { previous = refl; argument = refl; column = λ e. refl; paste = refl; search = refl }) (quiet_self s)

pub quiet_forward : (s : EditState) (count : ℕ) → Quiet s (lines_forward s count)
quiet_forward s count = quiet_if (can_go_forward s.buffer count) s _ s (record { previous = refl; argument = refl; column = λ e. refl; paste = refl; search = refl }) (quiet_self s)

pub quiet_choices : (forward : Bool) (s : EditState) (steps : ℕ) (menu : Option Menu) → Quiet s (chosen_steps forward s steps menu)
quiet_choices forward s steps None = quiet_self s
quiet_choices forward s steps (Some m) = record { previous = refl; argument = refl; column = λ e. refl; paste = refl; search = refl }

-- a mark that is set where none is
pub quiet_marked : (mark : Option ℕ) (s : EditState) → Quiet s (mark_unless mark s)
quiet_marked None s = quiet s _ _
quiet_marked (Some at) s = quiet_self s

-- all but the buffer, the ring and the column are as before
pub record Still (s t : EditState) : Type 0 where
  pub previous : t.previous ≡ s.previous
  pub argument : t.arg ≡ s.arg
  pub paste : t.before_paste ≡ s.before_paste
  pub search : t.search ≡ s.search

pub still_of_quiet : (s t : EditState) → Quiet s t → Still s t
still_of_quiet s t q = record { previous = q.previous; argument = q.argument; paste = q.paste; search = q.search }

pub still_moved : (place : Option ℕ) (s : EditState) → Still s (moved_to_row s place)
still_moved None s = record { previous = refl; argument = refl; paste = refl; search = refl }
still_moved (Some at) s = record { previous = refl; argument = refl; paste = refl; search = refl }

pub still_if : (b : Bool) (s t u : EditState) → Still s t → Still s u → Still s (if b then t else u)
still_if true s t u first second = first
still_if false s t u first second = second

pub still_row_or_line : (place : Option ℕ) (s other : EditState) → Still s other → Still s (row_or_line s place other)
still_row_or_line None s other line = still_if (is_some s.buffer.doc.mark) s s other (still_of_quiet s s (quiet_self s)) line
still_row_or_line (Some at) s other line = still_moved (Some at) s

pub still_unless_menu : (menu : Option Menu) (s moved chosen : EditState) → Still s moved → Still s chosen → Still s (unless_menu menu moved chosen)
still_unless_menu None s moved chosen first second = first
still_unless_menu (Some m) s moved chosen first second = second

pub still_marked_rows : (mark place : Option ℕ) (s : EditState) → Still s (moved_to_row (mark_unless mark s) place)
still_marked_rows mark place s =
    let first = quiet_marked mark s in
    let behind = still_moved place (mark_unless mark s) in
    record {
      previous = behind.previous ∙ first.previous;
      argument = behind.argument ∙ first.argument;
      paste = behind.paste ∙ first.paste;
      search = behind.search ∙ first.search;
    }
