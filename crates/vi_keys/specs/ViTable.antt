-- The table of vi's keys: for each row its keys, when it is active, what is saved, and its command.
use Rattle.std.specs.Prelude.{ℕ, false, List, [], ◌∷◌, ◌++◌}
use Rattle.key_names.specs.declared.key.Key.{Key}
use Rattle.key_names.specs.declared.key.Key.TheVariants.{Any, BackTab, Char, Control, Delete, Down, End, Escape, Home, Left, Paste, Right, Up}
use Rattle.key_proc.specs.declared.facts.Fact.TheVariants as fact
use Rattle.key_proc.specs.declared.rows.FactTest.{FactTest}
use Rattle.key_proc.specs.declared.rows.FactTest.TheVariants.{Is, Not}
use Rattle.key_proc.specs.declared.bindings.Save.{Save}
use Rattle.key_proc.specs.declared.bindings.Save.TheVariants.{Always, Never, UnlessRepeat}
use Rattle.key_proc.specs.declared.bindings.Binding.{Binding}
use Rattle.key_proc.specs.declared.filters.Filter.{Filter}
use Rattle.key_proc.specs.declared.filters.Filter.TheVariants.{Or}
use Rattle.key_proc.specs.Rows.{all_filter}
use Rattle.edit_state.specs.declared.commands.Command.TheVariants as emacs
use Rattle.edit_state.specs.CommandNumbers.{number_of}
use Rattle.vi_keys.specs.declared.commands.ViCommand.TheVariants as vi
use Rattle.vi_keys.specs.ViNumbers.{number_of as vi_number}

-- these keys run the command with this number while this filter holds
abbrev pub bound : Filter → Save → ℕ → List Key → Binding
bound filter save command keys = record {
  keys = keys;
  filter = filter;
  eager = false;
  save = save;
  command = command;
}

-- while no search runs, and all these tests hold
abbrev pub only : List FactTest → Filter
only tests = all_filter (Not fact.Searching ∷ tests)

-- as characters are inserted
abbrev pub insert : Filter
insert = only (Is fact.Insert ∷ [])

-- and there is a text
abbrev pub insert_text : Filter
insert_text = only (Is fact.Insert ∷ Not fact.Empty ∷ [])

-- and there is none
abbrev pub insert_empty : Filter
insert_empty = only (Is fact.Insert ∷ Is fact.Empty ∷ [])

-- and nothing is selected
abbrev pub insert_unselected : Filter
insert_unselected = only (Is fact.Insert ∷ Not fact.Selection ∷ [])

-- and the text has one line
abbrev pub insert_one_line : Filter
insert_one_line = only (Is fact.Insert ∷ Not fact.Multiline ∷ [])

-- and it may have several
abbrev pub insert_multiline : Filter
insert_multiline = only (Is fact.Insert ∷ Is fact.Multiline ∷ [])

-- and a suggestion can be taken
abbrev pub insert_suggested : Filter
insert_suggested = only (Is fact.Insert ∷ Is fact.Suggestion ∷ [])

-- as characters are replaced
abbrev pub replace : Filter
replace = only (Is fact.Replace ∷ [])

-- and the text has one line
abbrev pub replace_one_line : Filter
replace_one_line = only (Is fact.Replace ∷ Not fact.Multiline ∷ [])

-- and it may have several
abbrev pub replace_multiline : Filter
replace_multiline = only (Is fact.Replace ∷ Is fact.Multiline ∷ [])

-- in Navigation, where no operator waits and nothing is selected
abbrev pub plain : Filter
plain = only (Is fact.Navigation ∷ Not fact.Operator ∷ Not fact.Selection ∷ [])

-- in Navigation
abbrev pub motion : Filter
motion = only (Is fact.Navigation ∷ [])

-- and no argument is held
abbrev pub uncounted : Filter
uncounted = only (Is fact.Navigation ∷ Not fact.Argument ∷ [])

-- and one is held
abbrev pub counted : Filter
counted = only (Is fact.Navigation ∷ Is fact.Argument ∷ [])

-- as an operator waits
abbrev pub waiting : Filter
waiting = only (Is fact.Operator ∷ [])

-- as something is selected in Navigation
abbrev pub selected : Filter
selected = only (Is fact.Navigation ∷ Is fact.Selection ∷ [])

-- as either
abbrev pub waiting_or_selected : Filter
waiting_or_selected = Or waiting selected

-- as a search runs
abbrev pub searching : Filter
searching = all_filter (Is fact.Searching ∷ [])

-- the rows of Insert
abbrev pub insert_rows : List Binding
insert_rows =
    bound insert UnlessRepeat (number_of emacs.SelfInsert) (Any ∷ []) ∷
    bound insert Always (number_of emacs.BeginningOfLine) (Home ∷ []) ∷
    bound insert Always (number_of emacs.EndOfLine) (End ∷ []) ∷
    bound insert Always (number_of emacs.BackwardChar) (Left ∷ []) ∷
    bound insert Always (number_of emacs.ForwardChar) (Right ∷ []) ∷
    bound insert Always (number_of emacs.AutoUp) (Up ∷ []) ∷
    bound insert Always (number_of emacs.AutoDown) (Down ∷ []) ∷
    bound insert UnlessRepeat (number_of emacs.BackwardDeleteChar) ((Control 104) ∷ []) ∷
    bound insert UnlessRepeat (number_of emacs.DeleteChar) (Delete ∷ []) ∷
    bound insert_text UnlessRepeat (number_of emacs.DeleteChar) ((Control 100) ∷ []) ∷
    bound insert_empty Never (number_of emacs.EndOfFile) ((Control 100) ∷ []) ∷
    bound insert Always (number_of emacs.KillLine) ((Control 107) ∷ []) ∷
    bound insert Always (number_of emacs.UnixLineDiscard) ((Control 117) ∷ []) ∷
    bound insert_unselected Always (number_of emacs.UnixWordRubout) ((Control 119) ∷ []) ∷
    bound insert Always (number_of emacs.Yank) ((Control 121) ∷ []) ∷
    bound insert Always (number_of emacs.InsertPaste) (Paste ∷ []) ∷
    bound insert Always (number_of emacs.MenuComplete) ((Control 105) ∷ []) ∷
    bound insert Always (number_of emacs.MenuCompleteBackward) (BackTab ∷ []) ∷
    bound insert_one_line Never (number_of emacs.AcceptLine) ((Control 109) ∷ []) ∷
    bound insert_one_line Never (number_of emacs.AcceptLine) ((Control 106) ∷ []) ∷
    bound insert_multiline Always (number_of emacs.Newline) ((Control 109) ∷ []) ∷
    bound insert_multiline Always (number_of emacs.Newline) ((Control 106) ∷ []) ∷
    bound insert Always (number_of emacs.SearchBackward) ((Control 114) ∷ []) ∷
    bound insert Always (number_of emacs.SearchForward) ((Control 115) ∷ []) ∷
    bound insert_suggested Always (number_of emacs.InsertSuggestion) (Right ∷ []) ∷
    bound insert_suggested Always (number_of emacs.InsertSuggestion) ((Control 101) ∷ []) ∷
    bound insert_suggested Always (number_of emacs.InsertSuggestion) ((Control 102) ∷ []) ∷
    bound insert Never (number_of emacs.Interrupt) ((Control 99) ∷ []) ∷
    bound insert Always (vi_number vi.EnterNavigation) (Escape ∷ []) ∷
    []

-- the rows of Replace
abbrev pub replace_rows : List Binding
replace_rows =
    bound replace UnlessRepeat (vi_number vi.OverwriteChar) (Any ∷ []) ∷
    bound replace Always (vi_number vi.OverwriteBack) ((Control 104) ∷ []) ∷
    bound replace_one_line Never (number_of emacs.AcceptLine) ((Control 109) ∷ []) ∷
    bound replace_one_line Never (number_of emacs.AcceptLine) ((Control 106) ∷ []) ∷
    bound replace_multiline Always (number_of emacs.Newline) ((Control 109) ∷ []) ∷
    bound replace_multiline Always (number_of emacs.Newline) ((Control 106) ∷ []) ∷
    bound replace Never (number_of emacs.Interrupt) ((Control 99) ∷ []) ∷
    bound replace Always (vi_number vi.EnterNavigation) (Escape ∷ []) ∷
    []

-- the first rows of Navigation: what does nothing, and the motions
abbrev pub motion_rows : List Binding
motion_rows =
    bound plain Never (vi_number vi.Ignore) (Escape ∷ []) ∷
    bound plain Never (vi_number vi.Ignore) (Any ∷ []) ∷
    bound motion Always (vi_number vi.MoveLeft) ((Char 104) ∷ []) ∷
    bound motion Always (vi_number vi.MoveLeft) (Left ∷ []) ∷
    bound motion Always (vi_number vi.MoveLeft) ((Control 104) ∷ []) ∷
    bound motion Always (vi_number vi.MoveRight) ((Char 108) ∷ []) ∷
    bound motion Always (vi_number vi.MoveRight) (Right ∷ []) ∷
    bound motion Always (vi_number vi.MoveRight) ((Char 32) ∷ []) ∷
    bound motion Always (vi_number vi.MoveDown) ((Char 106) ∷ []) ∷
    bound motion Always (vi_number vi.MoveDown) (Down ∷ []) ∷
    bound motion Always (vi_number vi.MoveDown) ((Control 110) ∷ []) ∷
    bound motion Always (vi_number vi.MoveUp) ((Char 107) ∷ []) ∷
    bound motion Always (vi_number vi.MoveUp) (Up ∷ []) ∷
    bound motion Always (vi_number vi.MoveUp) ((Control 112) ∷ []) ∷
    bound uncounted Always (vi_number vi.MoveToRowStart) ((Char 48) ∷ []) ∷
    bound motion Always (vi_number vi.MoveToRowStart) (Home ∷ []) ∷
    bound motion Always (vi_number vi.MoveToRowText) ((Char 94) ∷ []) ∷
    bound motion Always (vi_number vi.MoveToRowEnd) ((Char 36) ∷ []) ∷
    bound motion Always (vi_number vi.MoveToRowEnd) (End ∷ []) ∷
    bound motion Always (vi_number vi.MoveToWord) ((Char 119) ∷ []) ∷
    bound motion Always (vi_number vi.MoveToBigWord) ((Char 87) ∷ []) ∷
    bound motion Always (vi_number vi.MoveBackWord) ((Char 98) ∷ []) ∷
    bound motion Always (vi_number vi.MoveBackBigWord) ((Char 66) ∷ []) ∷
    bound motion Always (vi_number vi.MoveToWordEnd) ((Char 101) ∷ []) ∷
    bound motion Always (vi_number vi.MoveToBigWordEnd) ((Char 69) ∷ []) ∷
    bound motion Always (vi_number vi.MoveToFirstRow) ((Char 103) ∷ (Char 103) ∷ []) ∷
    bound motion Always (vi_number vi.MoveToLastRow) ((Char 71) ∷ []) ∷
    bound motion Always (vi_number vi.FindAhead) ((Char 102) ∷ Any ∷ []) ∷
    bound motion Always (vi_number vi.FindBack) ((Char 70) ∷ Any ∷ []) ∷
    bound motion Always (vi_number vi.TillAhead) ((Char 116) ∷ Any ∷ []) ∷
    bound motion Always (vi_number vi.TillBack) ((Char 84) ∷ Any ∷ []) ∷
    bound motion Always (vi_number vi.FindAgain) ((Char 59) ∷ []) ∷
    bound motion Always (vi_number vi.FindTurned) ((Char 44) ∷ []) ∷
    bound motion Always (vi_number vi.MoveToBracket) ((Char 37) ∷ []) ∷
    []

-- the other rows of Navigation, from the bottom up
abbrev pub change_rows : List Binding
change_rows =
    bound motion Never (vi_number vi.Interrupt) ((Control 99) ∷ []) ∷
    bound plain Never (vi_number vi.AcceptLine) ((Control 109) ∷ []) ∷
    bound plain Never (vi_number vi.AcceptLine) ((Control 106) ∷ []) ∷
    bound motion Never (vi_number vi.DigitArgument) ((Char 49) ∷ []) ∷
    bound motion Never (vi_number vi.DigitArgument) ((Char 50) ∷ []) ∷
    bound motion Never (vi_number vi.DigitArgument) ((Char 51) ∷ []) ∷
    bound motion Never (vi_number vi.DigitArgument) ((Char 52) ∷ []) ∷
    bound motion Never (vi_number vi.DigitArgument) ((Char 53) ∷ []) ∷
    bound motion Never (vi_number vi.DigitArgument) ((Char 54) ∷ []) ∷
    bound motion Never (vi_number vi.DigitArgument) ((Char 55) ∷ []) ∷
    bound motion Never (vi_number vi.DigitArgument) ((Char 56) ∷ []) ∷
    bound motion Never (vi_number vi.DigitArgument) ((Char 57) ∷ []) ∷
    bound counted Never (vi_number vi.DigitArgument) ((Char 48) ∷ []) ∷
    bound selected Always (vi_number vi.DeleteSelection) ((Char 100) ∷ []) ∷
    bound selected Always (vi_number vi.DeleteSelection) ((Char 120) ∷ []) ∷
    bound selected Always (vi_number vi.ChangeSelection) ((Char 99) ∷ []) ∷
    bound selected Always (vi_number vi.ChangeSelection) ((Char 115) ∷ []) ∷
    bound selected Always (vi_number vi.YankSelection) ((Char 121) ∷ []) ∷
    bound plain Always (vi_number vi.SelectChars) ((Char 118) ∷ []) ∷
    bound plain Always (vi_number vi.SelectRows) ((Char 86) ∷ []) ∷
    bound plain Never (vi_number vi.Undo) ((Char 117) ∷ []) ∷
    bound plain Never (vi_number vi.Redo) ((Control 114) ∷ []) ∷
    bound plain Always (vi_number vi.EnterReplace) ((Char 82) ∷ []) ∷
    bound plain Always (vi_number vi.OpenBelow) ((Char 111) ∷ []) ∷
    bound plain Always (vi_number vi.OpenAbove) ((Char 79) ∷ []) ∷
    bound plain Always (vi_number vi.InsertHere) ((Char 105) ∷ []) ∷
    bound plain Always (vi_number vi.InsertAtText) ((Char 73) ∷ []) ∷
    bound plain Always (vi_number vi.InsertBehind) ((Char 97) ∷ []) ∷
    bound plain Always (vi_number vi.InsertAtEnd) ((Char 65) ∷ []) ∷
    bound plain Always (vi_number vi.PutBefore) ((Char 80) ∷ []) ∷
    bound plain Always (vi_number vi.PutBehind) ((Char 112) ∷ []) ∷
    bound plain Always (vi_number vi.JoinRows) ((Char 74) ∷ []) ∷
    bound plain Always (vi_number vi.SwapCase) ((Char 126) ∷ []) ∷
    bound plain Always (vi_number vi.ReplaceChars) ((Char 114) ∷ Any ∷ []) ∷
    bound plain Always (vi_number vi.ChangeAhead) ((Char 115) ∷ []) ∷
    bound plain Always (vi_number vi.ChangeWholeRows) ((Char 83) ∷ []) ∷
    bound plain Always (vi_number vi.YankWholeRows) ((Char 89) ∷ []) ∷
    bound plain Always (vi_number vi.CutRest) ((Char 68) ∷ []) ∷
    bound plain Always (vi_number vi.ChangeRest) ((Char 67) ∷ []) ∷
    bound plain Always (vi_number vi.CutAhead) ((Char 120) ∷ []) ∷
    bound plain Always (vi_number vi.CutBack) ((Char 88) ∷ []) ∷
    bound waiting_or_selected Never (vi_number vi.Leave) (Escape ∷ []) ∷
    bound waiting Never (vi_number vi.EndOperator) (Any ∷ []) ∷
    bound waiting Always (vi_number vi.InnerWord) ((Char 105) ∷ (Char 119) ∷ []) ∷
    bound waiting Always (vi_number vi.AroundWord) ((Char 97) ∷ (Char 119) ∷ []) ∷
    bound plain Always (vi_number vi.DeleteOperator) ((Char 100) ∷ []) ∷
    bound waiting Always (vi_number vi.DeleteRows) ((Char 100) ∷ []) ∷
    bound plain Always (vi_number vi.ChangeOperator) ((Char 99) ∷ []) ∷
    bound waiting Always (vi_number vi.ChangeRows) ((Char 99) ∷ []) ∷
    bound plain Always (vi_number vi.YankOperator) ((Char 121) ∷ []) ∷
    bound waiting Always (vi_number vi.YankRows) ((Char 121) ∷ []) ∷
    []

-- the rows of an incremental search
abbrev pub search_rows : List Binding
search_rows =
    bound searching Never (number_of emacs.ExtendNeedle) (Any ∷ []) ∷
    bound searching Never (number_of emacs.ShortenNeedle) ((Control 104) ∷ []) ∷
    bound searching Never (number_of emacs.SearchAgainBackward) ((Control 114) ∷ []) ∷
    bound searching Never (number_of emacs.SearchAgainForward) ((Control 115) ∷ []) ∷
    bound searching Never (number_of emacs.AcceptSearch) ((Control 109) ∷ []) ∷
    bound searching Never (number_of emacs.AcceptSearch) ((Control 106) ∷ []) ∷
    bound searching Never (number_of emacs.AcceptSearch) (Escape ∷ []) ∷
    bound searching Never (number_of emacs.AbortSearch) ((Control 103) ∷ []) ∷
    bound searching Never (number_of emacs.AbortSearch) ((Control 99) ∷ []) ∷
    []

-- the whole table
abbrev pub vi_table : List Binding
vi_table = insert_rows ++ replace_rows ++ motion_rows ++ change_rows ++ search_rows
