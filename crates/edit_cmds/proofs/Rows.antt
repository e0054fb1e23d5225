-- Each row leaves alone what is dropped behind it, and only some rows touch the search.
use Rattle.std.proofs.Common.{◌≡◌, ℕ, Bool, true, false, List, ◌∷◌, Option, None, Some, refl, ◌∙◌}
use Rattle.std.specs.Prelude.{if◌then◌else◌, length, slice_get, nat_lt, ◌==◌, ◌*◌, ◌+◌}
use Rattle.std.specs.Char.{is_ascii_digit}
use Rattle.key_names.specs.declared.key.Key.{Key}
use Rattle.key_names.specs.declared.key.Key.TheVariants.{Char}
use Rattle.key_names.specs.declared.key.KeyPress.{KeyPress}
use Rattle.edit_buffer.specs.BufferState.{BufferState}
use Rattle.edit_buffer.specs.declared.rings.Clip.{Clip}
use Rattle.edit_state.specs.declared.states.EditState.{EditState}
use Rattle.edit_state.specs.declared.states.Search.{Search}
use Rattle.edit_state.specs.declared.arguments.Arg.{Arg}
use Rattle.edit_state.specs.declared.commands.Command.{Command}
use Rattle.edit_state.specs.declared.commands.Command.TheVariants as does
use Rattle.edit_state.specs.StateFacts.{is_empty}
use Rattle.edit_state.specs.Searches.{aborted_from}
use Rattle.edit_cmds.specs.Leaving.{LeavesAlone}
use Rattle.edit_cmds.specs.Moving.{amount, count, marked}
use Rattle.edit_cmds.specs.Inserting.{times_in, indent}
use Rattle.edit_cmds.specs.Counting.{digit_argument}
use Rattle.edit_cmds.specs.Rewriting.{pair_place}
use Rattle.edit_cmds.specs.Pasting.{pasted, yank_of, popped_from, follows_paste}
use Rattle.edit_cmds.specs.Searching.{extended_from, extend_needle, shortened_from, again_from}
use Rattle.edit_cmds.specs.Running.{row, keeps_of, touches_search, moves_by_rows}
use Rattle.edit_cmds.proofs.Frames.{Quiet, Still, quiet, quiet_self, quiet_if, quiet_then, alone_of_quiet, quiet_inserted, quiet_self_insert, quiet_suggestion, quiet_killed_as, quiet_line_killed, quiet_discard, quiet_cut_to_mark, quiet_copied, quiet_transposed, quiet_popped, quiet_cancelled, quiet_back, quiet_forward, quiet_choices, quiet_marked, still_of_quiet, still_row_or_line, still_unless_menu, still_marked_rows}

-- what the row of a command leaves alone
pub record Framed (command : Command) (s t : EditState) : Type 0 where
  pub alone : LeavesAlone (keeps_of command) s t
  pub search : touches_search command ≡ false → t.search ≡ s.search

framed_quiet : (command : Command) (s t : EditState) → Quiet s t → Framed command s t
framed_quiet command s t q = record { alone = alone_of_quiet (keeps_of command) s t q; search = λ e. q.search }

framed_still : (command : Command) (s t : EditState) → moves_by_rows command ≡ true → Still s t → Framed command s t
framed_still command s t moves q = record {
  alone = record { previous = q.previous; argument = λ e none. q.argument ∙ none; column = λ e. cc; paste = λ e none. q.paste ∙ none };
  search = λ e. q.search;
}

-- all but the buffer and the search are as before
record Searching (s t : EditState) : Type 0 where
  previous : t.previous ≡ s.previous
  argument : t.arg ≡ s.arg
  column : t.column ≡ s.column
  paste : t.before_paste ≡ s.before_paste

framed_search : (command : Command) (s t : EditState) → touches_search command ≡ true → Searching s t → Framed command s t
framed_search command s t touches q = record {
  alone = record { previous = q.previous; argument = λ e none. q.argument ∙ none; column = λ e none. q.column ∙ none; paste = λ e none. q.paste ∙ none };
  search = λ e. cc;
}

quiet_search : (s : EditState) (b : BufferState) (search : Option Search) → Searching s (record s { buffer = b; search = search })
quiet_search s b search = record { previous = refl; argument = refl; column = refl; paste = refl }

searching_self : (s : EditState) → Searching s s
searching_self s = record { previous = refl; argument = refl; column = refl; paste = refl }

searching_if : (b : Bool) (s t u : EditState) → Searching s t → Searching s u → Searching s (if b then t else u)
searching_if true s t u first second = first
searching_if false s t u first second = second

searching_extended_from : (search : Option Search) (c : ℕ) (s : EditState) → Searching s (extended_from search c s)
searching_extended_from None c s = searching_self s
searching_extended_from (Some search) c s = quiet_search s _ _

searching_extended : (key : Key) (s : EditState) → Searching s (extend_needle key s)
searching_extended (Char c) s = searching_extended_from s.search c s
searching_extended _ s = searching_self s

searching_shortened : (search : Option Search) (s : EditState) → Searching s (shortened_from search s)
searching_shortened None s = searching_self s
searching_shortened (Some search) s = searching_if (is_empty search.needle) s s _ (searching_self s) (quiet_search s _ _)

searching_again : (search : Option Search) (forward : Bool) (s : EditState) → Searching s (again_from search forward s)
searching_again None forward s = searching_self s
searching_again (Some search) forward s = quiet_search s _ _

searching_aborted : (search : Option Search) (s : EditState) → Searching s (aborted_from search s)
searching_aborted None s = searching_self s
searching_aborted (Some search) s = quiet_search s _ _

-- a paste keeps the document from before
record Pasted (s t : EditState) : Type 0 where
  previous : t.previous ≡ s.previous
  argument : t.arg ≡ s.arg
  column : t.column ≡ s.column
  search : t.search ≡ s.search

pasted_self : (s : EditState) → Pasted s s
pasted_self s = record { previous = refl; argument = refl; column = refl; search = refl }

pasted_if : (b : Bool) (s t u : EditState) → Pasted s t → Pasted s u → Pasted s (if b then t else u)
pasted_if true s t u first second = first
pasted_if false s t u first second = second

pasted_by : (clip : Option Clip) (s : EditState) → Pasted s (yank_of clip s)
pasted_by None s = pasted_self s
pasted_by (Some clip) s =
    pasted_if (times_in s == 0) s s (pasted clip.text (times_in s) s) (pasted_self s)
    (pasted_if (nat_lt 32768 (length s.buffer.doc.text + times_in s * length clip.text)) s s _ (pasted_self s) (record { previous = refl; argument = refl; column = refl; search = refl }))

framed_pasted : (ring : List Clip) (s : EditState) → Framed does.Yank s (yank_of (slice_get ring 0) s)
framed_pasted ring s =
    let q = pasted_by (slice_get ring 0) s in
    record {
      alone = record { previous = q.previous; argument = λ e none. q.argument ∙ none; column = λ e none. q.column ∙ none; paste = λ e. cc };
      search = λ e. q.search;
    }

digit_if : (b : Bool) (s : EditState) (arg : Option Arg) → Framed does.DigitArgument s (if b then record s { arg = arg } else s)
digit_if true s arg = record { alone = record { previous = refl; argument = λ e. cc; column = λ e none. none; paste = λ e none. none }; search = λ e. refl }
digit_if false s arg = framed_quiet does.DigitArgument s s (quiet_self s)

framed_digit : (key : Key) (s : EditState) → Framed does.DigitArgument s (digit_argument key s)
framed_digit (Char c) s = digit_if (is_ascii_digit c) s _
framed_digit _ s = framed_quiet does.DigitArgument s s (quiet_self s)

pub framed : (command : Command) (key : KeyPress) (s : EditState) → Framed command s (row command key s)
framed does.SelfInsert key s = framed_quiet _ s _ (quiet_self_insert key.key s)
framed does.Ignore key s = framed_quiet _ s _ (quiet_self s)
framed does.BeginningOfLine key s = framed_quiet _ s _ (quiet s _ _)
framed does.EndOfLine key s = framed_quiet _ s _ (quiet s _ _)
framed does.BackwardChar key s = framed_quiet _ s _ (quiet s _ _)
framed does.ForwardChar key s = framed_quiet _ s _ (quiet s _ _)
framed does.BackwardWord key s = framed_quiet _ s _ (quiet s _ _)
framed does.ForwardWord key s = framed_quiet _ s _ (quiet s _ _)
framed does.AutoUp key s = framed_still _ s _ refl (still_unless_menu s.buffer.menu s _ _ (still_row_or_line _ s _ (still_of_quiet s _ (quiet_back s (count s)))) (still_of_quiet s _ (quiet_choices false s (count s) s.buffer.menu)))
framed does.AutoDown key s = framed_still _ s _ refl (still_unless_menu s.buffer.menu s _ _ (still_row_or_line _ s _ (still_of_quiet s _ (quiet_forward s (count s)))) (still_of_quiet s _ (quiet_choices true s (count s) s.buffer.menu)))
framed does.PreviousHistory key s = framed_quiet _ s _ (quiet_back s (count s))
framed does.NextHistory key s = framed_quiet _ s _ (quiet_forward s (count s))
framed does.BeginningOfHistory key s = framed_quiet _ s _ (quiet_back s s.buffer.index)
framed does.EndOfHistory key s = framed_quiet _ s _ (quiet_forward s (length s.buffer.lines))
framed does.SelectLeft key s = framed_quiet _ s _ (quiet_then s (marked s) _ (quiet_marked s.buffer.doc.mark s) (quiet (marked s) _ _))
framed does.SelectRight key s = framed_quiet _ s _ (quiet_then s (marked s) _ (quiet_marked s.buffer.doc.mark s) (quiet (marked s) _ _))
framed does.SelectUp key s = framed_still _ s _ refl (still_marked_rows s.buffer.doc.mark _ s)
framed does.SelectDown key s = framed_still _ s _ refl (still_marked_rows s.buffer.doc.mark _ s)
framed does.BackwardDeleteChar key s = framed_quiet _ s _ (quiet s _ _)
framed does.DeleteChar key s = framed_quiet _ s _ (quiet s _ _)
framed does.EndOfFile key s = framed_quiet _ s _ (quiet_self s)
framed does.TransposeChars key s = framed_quiet _ s _ (quiet_transposed (pair_place s.buffer.doc) s)
framed does.UppercaseWord key s = framed_quiet _ s _ (quiet s _ _)
framed does.DowncaseWord key s = framed_quiet _ s _ (quiet s _ _)
framed does.CapitalizeWord key s = framed_quiet _ s _ (quiet s _ _)
framed does.KillLine key s = framed_quiet _ s _ (quiet_line_killed (amount s) s)
framed does.UnixLineDiscard key s = framed_quiet _ s _ (quiet_discard s)
framed does.KillWord key s = framed_quiet _ s _ (quiet_killed_as _ _ _ s)
framed does.BackwardKillWord key s = framed_quiet _ s _ (quiet_killed_as _ _ _ s)
framed does.UnixWordRubout key s = framed_quiet _ s _ (quiet_killed_as _ _ _ s)
framed does.CutSelection key s = framed_quiet _ s _ (quiet_cut_to_mark s.buffer.doc.mark s)
framed does.CopySelection key s = framed_quiet _ s _ (quiet_copied s.buffer.doc.mark s)
framed does.DeleteHorizontalSpace key s = framed_quiet _ s _ (quiet s _ _)
framed does.Yank key s = framed_pasted s.ring s
framed does.YankPop key s = framed_quiet _ s _ (quiet_if (follows_paste s) s (popped_from s.before_paste s) s (quiet_popped s.before_paste s) (quiet_self s))
framed does.Undo key s = framed_quiet _ s _ (quiet s _ _)
framed does.Redo key s = framed_quiet _ s _ (quiet s _ _)
framed does.SetMark key s = framed_quiet _ s _ (quiet s _ _)
framed does.Cancel key s = framed_quiet _ s _ (quiet_cancelled s.buffer.menu s)
framed does.QuotedInsert key s = framed_quiet _ s _ (quiet_inserted s key.text 1)
framed does.DigitArgument key s = framed_digit key.key s
framed does.NegativeArgument key s = record { alone = record { previous = refl; argument = λ e. cc; column = λ e none. none; paste = λ e none. none }; search = λ e. refl }
framed does.InsertPaste key s = framed_quiet _ s _ (quiet_inserted s key.text 1)
framed does.MenuComplete key s = framed_quiet _ s _ (quiet_choices true s 1 s.buffer.menu)
framed does.MenuCompleteBackward key s = framed_quiet _ s _ (quiet_choices false s 1 s.buffer.menu)
framed does.AcceptLine key s = framed_quiet _ s _ (quiet_self s)
framed does.Newline key s = framed_quiet _ s _ (quiet_inserted s (10 ∷ indent s.buffer.doc) 1)
framed does.SearchBackward key s = framed_search _ s _ refl (quiet_search s _ _)
framed does.SearchForward key s = framed_search _ s _ refl (quiet_search s _ _)
framed does.InsertSuggestion key s = framed_quiet _ s _ (quiet_suggestion s.suggestion s)
framed does.Interrupt key s = framed_quiet _ s _ (quiet_self s)
framed does.ExtendNeedle key s = framed_search _ s _ refl (searching_extended key.key s)
framed does.ShortenNeedle key s = framed_search _ s _ refl (searching_shortened s.search s)
framed does.SearchAgainBackward key s = framed_search _ s _ refl (searching_again s.search false s)
framed does.SearchAgainForward key s = framed_search _ s _ refl (searching_again s.search true s)
framed does.AcceptSearch key s = framed_search _ s _ refl (quiet_search s _ _)
framed does.AbortSearch key s = framed_search _ s _ refl (searching_aborted s.search s)
