-- What running a command makes of the edit state: its row, and then what every command leaves behind.
use Rattle.std.specs.Prelude.{◌≡◌, Bool, true, false, not, ◌||◌, ◌∷◌, length, slice_get, Option, None, Some, is_some, if◌then◌else◌}
use Rattle.key_names.specs.declared.key.KeyPress.{KeyPress}
use Rattle.edit_buffer.specs.declared.menus.Menu.{Menu}
use Rattle.edit_state.specs.declared.states.EditState.{EditState}
use Rattle.edit_state.specs.declared.states.Done.{Done}
use Rattle.edit_state.specs.declared.states.Done.TheVariants as answers
use Rattle.edit_state.specs.declared.commands.Command.{Command}
use Rattle.edit_state.specs.declared.commands.Command.TheVariants as does
use Rattle.edit_state.specs.CommandNumbers.{number_of}
use Rattle.edit_state.specs.Arguments.{turned}
use Rattle.edit_state.specs.Answers.{Answers}
use Rattle.edit_state.specs.StateEdits.{IsTooLong}
use Rattle.edit_state.specs.HistoryMoves.{lines_back, lines_forward}
use Rattle.edit_state.specs.MenuMoves.{choices, stops}
use Rattle.edit_state.specs.AutoMoves.{auto_up, auto_down}
use Rattle.edit_state.specs.Searches.{search_started, aborted}
use Rattle.edit_cmds.specs.declared.leaving.Keeps.{Keeps}
use Rattle.edit_cmds.specs.declared.rewriting.Case.TheVariants.{Upper, Lower, Capital}
use Rattle.edit_cmds.specs.Leaving.{left_behind}
use Rattle.edit_cmds.specs.Moving as moving
use Rattle.edit_cmds.specs.Moving.{amount, count}
use Rattle.edit_cmds.specs.Deleting.{IsNothing, delete_char, backward_delete_char}
use Rattle.edit_cmds.specs.Inserting.{self_insert, IsSelfInsertTooLong, insert_text, indent, newline, insert_suggestion, IsTooLongSuggestion}
use Rattle.edit_cmds.specs.Killing.{kill_line, unix_line_discard, kill_word, backward_kill_word, unix_word_rubout, cut_selection, copy_selection}
use Rattle.edit_cmds.specs.Counting.{digit_argument, negative_argument}
use Rattle.edit_cmds.specs.Restoring.{undo, HasNoUndo, redo, HasNoRedo, cancel}
use Rattle.edit_cmds.specs.Rewriting.{transpose_chars, case_words, delete_horizontal_space}
use Rattle.edit_cmds.specs.Pasting.{yank, IsYankTooLong, yank_pop, follows_paste, IsPopTooLong}
use Rattle.edit_cmds.specs.Searching.{extend_needle, IsExtensionLost, shorten_needle, IsLostWithout, search_again, HasNoNext}

-- the command is one of an incremental search
abbrev pub searches : Command → Bool
searches does.ExtendNeedle = true
searches does.ShortenNeedle = true
searches does.SearchAgainBackward = true
searches does.SearchAgainForward = true
searches does.AcceptSearch = true
searches does.AbortSearch = true
searches _ = false

-- the command starts a search, or is one of it
abbrev pub starts_search : Command → Bool
starts_search does.SearchBackward = true
starts_search does.SearchForward = true
starts_search _ = false

abbrev pub touches_search : Command → Bool
touches_search command = starts_search command || searches command

-- a search runs, and the command is one of it; or neither
abbrev pub fits : Command → EditState → Bool
fits command s = if searches command then is_some s.search else not (is_some s.search)

-- the row of a command
abbrev pub row : Command → KeyPress → EditState → EditState
row does.SelfInsert key s = self_insert key.key s
row does.Ignore key s = s
row does.BeginningOfLine key s = moving.beginning_of_line s
row does.EndOfLine key s = moving.end_of_line s
row does.BackwardChar key s = moving.backward_char s
row does.ForwardChar key s = moving.forward_char s
row does.BackwardWord key s = moving.backward_word s
row does.ForwardWord key s = moving.forward_word s
row does.AutoUp key s = auto_up s (count s)
row does.AutoDown key s = auto_down s (count s)
row does.PreviousHistory key s = lines_back s (count s)
row does.NextHistory key s = lines_forward s (count s)
row does.BeginningOfHistory key s = lines_back s s.buffer.index
row does.EndOfHistory key s = lines_forward s (length s.buffer.lines)
row does.SelectLeft key s = moving.select_left s
row does.SelectRight key s = moving.select_right s
row does.SelectUp key s = moving.select_up s
row does.SelectDown key s = moving.select_down s
row does.BackwardDeleteChar key s = backward_delete_char s
row does.DeleteChar key s = delete_char s
row does.EndOfFile key s = s
row does.TransposeChars key s = transpose_chars s
row does.UppercaseWord key s = case_words Upper s
row does.DowncaseWord key s = case_words Lower s
row does.CapitalizeWord key s = case_words Capital s
row does.KillLine key s = kill_line s
row does.UnixLineDiscard key s = unix_line_discard s
row does.KillWord key s = kill_word s
row does.BackwardKillWord key s = backward_kill_word s
row does.UnixWordRubout key s = unix_word_rubout s
row does.CutSelection key s = cut_selection s
row does.CopySelection key s = copy_selection s
row does.DeleteHorizontalSpace key s = delete_horizontal_space s
row does.Yank key s = yank s
row does.YankPop key s = yank_pop s
row does.Undo key s = undo s
row does.Redo key s = redo s
row does.SetMark key s = moving.set_mark s
row does.Cancel key s = cancel s
row does.QuotedInsert key s = insert_text key.text s
row does.DigitArgument key s = digit_argument key.key s
row does.NegativeArgument key s = negative_argument s
row does.InsertPaste key s = insert_text key.text s
row does.MenuComplete key s = choices true s 1
row does.MenuCompleteBackward key s = choices false s 1
row does.AcceptLine key s = s
row does.Newline key s = newline s
row does.SearchBackward key s = search_started s false
row does.SearchForward key s = search_started s true
row does.InsertSuggestion key s = insert_suggestion s
row does.Interrupt key s = s
row does.ExtendNeedle key s = extend_needle key.key s
row does.ShortenNeedle key s = shorten_needle s
row does.SearchAgainBackward key s = search_again false s
row does.SearchAgainForward key s = search_again true s
row does.AcceptSearch key s = record s { search = None }
row does.AbortSearch key s = aborted s

-- the bell is to ring
abbrev pub Rings : Command → KeyPress → EditState → Type 0
Rings does.SelfInsert key s = IsSelfInsertTooLong key.key s
Rings does.AutoUp key s = stops false (count s) s.buffer.menu ≡ true
Rings does.AutoDown key s = stops true (count s) s.buffer.menu ≡ true
Rings does.BackwardDeleteChar key s = IsNothing (turned (amount s)) s
Rings does.DeleteChar key s = IsNothing (amount s) s
Rings does.Yank key s = IsYankTooLong (slice_get s.ring 0) s
Rings does.YankPop key s = (follows_paste s ≡ true) × IsPopTooLong s.before_paste s
Rings does.Undo key s = HasNoUndo s
Rings does.Redo key s = HasNoRedo s
Rings does.QuotedInsert key s = IsTooLong s key.text 1
Rings does.InsertPaste key s = IsTooLong s key.text 1
Rings does.MenuComplete key s = stops true 1 s.buffer.menu ≡ true
Rings does.MenuCompleteBackward key s = stops false 1 s.buffer.menu ≡ true
Rings does.Newline key s = IsTooLong s (10 ∷ indent s.buffer.doc) 1
Rings does.InsertSuggestion key s = IsTooLongSuggestion s.suggestion s
Rings does.ExtendNeedle key s = IsExtensionLost key.key s
Rings does.ShortenNeedle key s = IsLostWithout s.search s
Rings does.SearchAgainBackward key s = HasNoNext s.search false s
Rings does.SearchAgainForward key s = HasNoNext s.search true s
Rings _ key s = ⊥

-- without a menu the completions are asked for
abbrev pub asks_without : Option Menu → Option Done
asks_without None = Some answers.StartComplete
asks_without (Some m) = None

-- the answer that the row names, where it names one
abbrev pub named : Command → EditState → Option Done
named does.EndOfFile s = Some answers.EndOfFile
named does.AcceptLine s = Some answers.Accept
named does.Interrupt s = Some answers.Interrupt
named does.MenuComplete s = asks_without s.buffer.menu
named _ s = None

-- a named answer; else the bell where it is to ring, and what differs
abbrev pub AnswersAs : Option Done → Type 0 → Done → EditState → EditState → Type 0
AnswersAs None rings done before after = Answers rings done before after
AnswersAs (Some answer) rings done before after = done ≡ answer

-- what a command keeps of the argument, of the column and of the document from before a paste
abbrev pub builds_argument : Command → Bool
builds_argument does.DigitArgument = true
builds_argument does.NegativeArgument = true
builds_argument _ = false

abbrev pub moves_by_rows : Command → Bool
moves_by_rows does.AutoUp = true
moves_by_rows does.AutoDown = true
moves_by_rows does.SelectUp = true
moves_by_rows does.SelectDown = true
moves_by_rows _ = false

abbrev pub pastes : Command → Bool
pastes does.Yank = true
pastes does.YankPop = true
pastes _ = false

abbrev pub keeps_of : Command → Keeps
keeps_of command = record { argument = builds_argument command; column = moves_by_rows command; paste = pastes command }

-- a command during a search that is none of it does nothing, and neither does one of a search where none runs
abbrev pub effect : Command → KeyPress → EditState → EditState
effect command key s = if fits command s then row command key s else s

abbrev pub answer_named : Command → EditState → Option Done
answer_named command s = if fits command s then named command s else None

abbrev pub IsToRing : Command → KeyPress → EditState → Type 0
IsToRing command key s = (fits command s ≡ true) × Rings command key s

-- the state after a command
abbrev pub ran : Command → KeyPress → EditState → EditState
ran command key s = left_behind (number_of command) (keeps_of command) (effect command key s)
