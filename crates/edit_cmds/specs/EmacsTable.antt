-- The table of Emacs keys: for each row its keys, when it is active, what is saved, and its command.
use Rattle.std.specs.Prelude.{false, List, [], ◌∷◌, ◌++◌}
use Rattle.key_names.specs.declared.key.Key.{Key}
use Rattle.key_names.specs.declared.key.Key.TheVariants.{Char, Control, Escape, Up, Down, Left, Right, Home, End, Delete, PageUp, PageDown, BackTab, ShiftUp, ShiftDown, ShiftLeft, ShiftRight, ControlLeft, ControlRight, Paste, Any}
use Rattle.key_proc.specs.declared.facts.Fact.TheVariants.{Selection, Searching, Argument, Multiline, Suggestion, Empty}
use Rattle.key_proc.specs.declared.rows.FactTest.{FactTest}
use Rattle.key_proc.specs.declared.rows.FactTest.TheVariants.{Is, Not}
use Rattle.key_proc.specs.declared.bindings.Save.{Save}
use Rattle.key_proc.specs.declared.bindings.Save.TheVariants.{Always, Never, UnlessRepeat}
use Rattle.key_proc.specs.declared.bindings.Binding.{Binding}
use Rattle.key_proc.specs.Rows.{all_filter}
use Rattle.edit_state.specs.declared.commands.Command.{Command}
use Rattle.edit_state.specs.declared.commands.Command.TheVariants as does
use Rattle.edit_state.specs.CommandNumbers.{number_of}

-- these keys run a command where all these tests hold
abbrev pub bound : List FactTest → Save → Command → List Key → Binding
bound tests save command keys = record {
  keys = keys;
  filter = all_filter tests;
  eager = false;
  save = save;
  command = number_of command;
}

-- while no search runs
abbrev pub unless_searching : List FactTest
unless_searching = Not Searching ∷ []

-- while none runs, and this test holds
abbrev pub only : FactTest → List FactTest
only test = Not Searching ∷ test ∷ []

-- while one runs
abbrev pub searching : List FactTest
searching = Is Searching ∷ []

-- the rows of Emacs keys, in the order of adding
abbrev pub editing_table : List Binding
editing_table =
    bound unless_searching UnlessRepeat does.SelfInsert (Any ∷ []) ∷
    bound unless_searching Never does.Ignore (Escape ∷ []) ∷
    bound unless_searching Always does.BeginningOfLine ((Control 97) ∷ []) ∷
    bound unless_searching Always does.BeginningOfLine (Home ∷ []) ∷
    bound unless_searching Always does.EndOfLine ((Control 101) ∷ []) ∷
    bound unless_searching Always does.EndOfLine (End ∷ []) ∷
    bound unless_searching Always does.BackwardChar ((Control 98) ∷ []) ∷
    bound unless_searching Always does.BackwardChar (Left ∷ []) ∷
    bound unless_searching Always does.ForwardChar ((Control 102) ∷ []) ∷
    bound unless_searching Always does.ForwardChar (Right ∷ []) ∷
    bound unless_searching Always does.BackwardWord (Escape ∷ (Char 98) ∷ []) ∷
    bound unless_searching Always does.BackwardWord (ControlLeft ∷ []) ∷
    bound unless_searching Always does.ForwardWord (Escape ∷ (Char 102) ∷ []) ∷
    bound unless_searching Always does.ForwardWord (ControlRight ∷ []) ∷
    bound unless_searching Always does.AutoUp (Up ∷ []) ∷
    bound unless_searching Always does.AutoUp ((Control 112) ∷ []) ∷
    bound unless_searching Always does.AutoDown (Down ∷ []) ∷
    bound unless_searching Always does.AutoDown ((Control 110) ∷ []) ∷
    bound unless_searching Always does.PreviousHistory (PageUp ∷ []) ∷
    bound unless_searching Always does.NextHistory (PageDown ∷ []) ∷
    bound unless_searching Always does.BeginningOfHistory (Escape ∷ (Char 60) ∷ []) ∷
    bound unless_searching Always does.EndOfHistory (Escape ∷ (Char 62) ∷ []) ∷
    bound unless_searching Always does.SelectLeft (ShiftLeft ∷ []) ∷
    bound unless_searching Always does.SelectRight (ShiftRight ∷ []) ∷
    bound unless_searching Always does.SelectUp (ShiftUp ∷ []) ∷
    bound unless_searching Always does.SelectDown (ShiftDown ∷ []) ∷
    bound unless_searching UnlessRepeat does.BackwardDeleteChar ((Control 104) ∷ []) ∷
    bound unless_searching UnlessRepeat does.DeleteChar (Delete ∷ []) ∷
    bound (only (Not Empty)) UnlessRepeat does.DeleteChar ((Control 100) ∷ []) ∷
    bound (only (Is Empty)) Never does.EndOfFile ((Control 100) ∷ []) ∷
    bound unless_searching Always does.TransposeChars ((Control 116) ∷ []) ∷
    bound unless_searching Always does.UppercaseWord (Escape ∷ (Char 117) ∷ []) ∷
    bound unless_searching Always does.DowncaseWord (Escape ∷ (Char 108) ∷ []) ∷
    bound unless_searching Always does.CapitalizeWord (Escape ∷ (Char 99) ∷ []) ∷
    bound unless_searching Always does.KillLine ((Control 107) ∷ []) ∷
    bound unless_searching Always does.UnixLineDiscard ((Control 117) ∷ []) ∷
    bound unless_searching Always does.KillWord (Escape ∷ (Char 100) ∷ []) ∷
    bound unless_searching Always does.BackwardKillWord (Escape ∷ (Control 104) ∷ []) ∷
    bound (only (Not Selection)) Always does.UnixWordRubout ((Control 119) ∷ []) ∷
    bound (only (Is Selection)) Always does.CutSelection ((Control 119) ∷ []) ∷
    bound (only (Is Selection)) Always does.CopySelection (Escape ∷ (Char 119) ∷ []) ∷
    bound unless_searching Always does.DeleteHorizontalSpace (Escape ∷ (Char 92) ∷ []) ∷
    bound unless_searching Always does.Yank ((Control 121) ∷ []) ∷
    bound unless_searching Always does.YankPop (Escape ∷ (Char 121) ∷ []) ∷
    bound unless_searching Never does.Undo ((Control 95) ∷ []) ∷
    bound unless_searching Never does.Undo ((Control 120) ∷ (Control 117) ∷ []) ∷
    bound unless_searching Never does.Redo ((Control 120) ∷ (Control 114) ∷ []) ∷
    bound unless_searching Always does.SetMark ((Control 64) ∷ []) ∷
    bound unless_searching Never does.Cancel ((Control 103) ∷ []) ∷
    bound unless_searching Always does.QuotedInsert ((Control 113) ∷ Any ∷ []) ∷
    bound unless_searching Never does.DigitArgument (Escape ∷ (Char 48) ∷ []) ∷
    bound unless_searching Never does.DigitArgument (Escape ∷ (Char 49) ∷ []) ∷
    bound unless_searching Never does.DigitArgument (Escape ∷ (Char 50) ∷ []) ∷
    bound unless_searching Never does.DigitArgument (Escape ∷ (Char 51) ∷ []) ∷
    bound unless_searching Never does.DigitArgument (Escape ∷ (Char 52) ∷ []) ∷
    bound unless_searching Never does.DigitArgument (Escape ∷ (Char 53) ∷ []) ∷
    bound unless_searching Never does.DigitArgument (Escape ∷ (Char 54) ∷ []) ∷
    bound unless_searching Never does.DigitArgument (Escape ∷ (Char 55) ∷ []) ∷
    bound unless_searching Never does.DigitArgument (Escape ∷ (Char 56) ∷ []) ∷
    bound unless_searching Never does.DigitArgument (Escape ∷ (Char 57) ∷ []) ∷
    bound unless_searching Never does.NegativeArgument (Escape ∷ (Char 45) ∷ []) ∷
    bound (only (Is Argument)) Never does.DigitArgument ((Char 48) ∷ []) ∷
    bound (only (Is Argument)) Never does.DigitArgument ((Char 49) ∷ []) ∷
    bound (only (Is Argument)) Never does.DigitArgument ((Char 50) ∷ []) ∷
    bound (only (Is Argument)) Never does.DigitArgument ((Char 51) ∷ []) ∷
    bound (only (Is Argument)) Never does.DigitArgument ((Char 52) ∷ []) ∷
    bound (only (Is Argument)) Never does.DigitArgument ((Char 53) ∷ []) ∷
    bound (only (Is Argument)) Never does.DigitArgument ((Char 54) ∷ []) ∷
    bound (only (Is Argument)) Never does.DigitArgument ((Char 55) ∷ []) ∷
    bound (only (Is Argument)) Never does.DigitArgument ((Char 56) ∷ []) ∷
    bound (only (Is Argument)) Never does.DigitArgument ((Char 57) ∷ []) ∷
    bound unless_searching Always does.InsertPaste (Paste ∷ []) ∷
    bound unless_searching Always does.MenuComplete ((Control 105) ∷ []) ∷
    bound unless_searching Always does.MenuCompleteBackward (BackTab ∷ []) ∷
    bound (only (Not Multiline)) Never does.AcceptLine ((Control 109) ∷ []) ∷
    bound (only (Not Multiline)) Never does.AcceptLine ((Control 106) ∷ []) ∷
    bound (only (Is Multiline)) Always does.Newline ((Control 109) ∷ []) ∷
    bound (only (Is Multiline)) Always does.Newline ((Control 106) ∷ []) ∷
    bound unless_searching Never does.AcceptLine (Escape ∷ (Control 109) ∷ []) ∷
    bound unless_searching Never does.AcceptLine (Escape ∷ (Control 106) ∷ []) ∷
    bound unless_searching Always does.SearchBackward ((Control 114) ∷ []) ∷
    bound unless_searching Always does.SearchForward ((Control 115) ∷ []) ∷
    bound (only (Is Suggestion)) Always does.InsertSuggestion (Right ∷ []) ∷
    bound (only (Is Suggestion)) Always does.InsertSuggestion ((Control 101) ∷ []) ∷
    bound (only (Is Suggestion)) Always does.InsertSuggestion ((Control 102) ∷ []) ∷
    bound unless_searching Never does.Interrupt ((Control 99) ∷ []) ∷
    []

-- the rows of an incremental search
abbrev pub search_table : List Binding
search_table =
    bound searching Never does.ExtendNeedle (Any ∷ []) ∷
    bound searching Never does.ShortenNeedle ((Control 104) ∷ []) ∷
    bound searching Never does.SearchAgainBackward ((Control 114) ∷ []) ∷
    bound searching Never does.SearchAgainForward ((Control 115) ∷ []) ∷
    bound searching Never does.AcceptSearch ((Control 109) ∷ []) ∷
    bound searching Never does.AcceptSearch ((Control 106) ∷ []) ∷
    bound searching Never does.AcceptSearch (Escape ∷ []) ∷
    bound searching Never does.AbortSearch ((Control 103) ∷ []) ∷
    bound searching Never does.AbortSearch ((Control 99) ∷ []) ∷
    []

-- the whole table
abbrev pub emacs_table : List Binding
emacs_table = editing_table ++ search_table
