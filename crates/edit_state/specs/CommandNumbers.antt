-- The numbers of the commands: their places in one list, from 0 on.
use Rattle.std.specs.Prelude.{ℕ, List, [], ◌∷◌, slice_get, Option}
use Rattle.edit_state.specs.declared.commands.Command.{Command}
use Rattle.edit_state.specs.declared.commands.Command.TheVariants.{SelfInsert, Ignore, BeginningOfLine, EndOfLine, BackwardChar, ForwardChar, BackwardWord, ForwardWord, AutoUp, AutoDown, PreviousHistory, NextHistory, BeginningOfHistory, EndOfHistory, SelectLeft, SelectRight, SelectUp, SelectDown, BackwardDeleteChar, DeleteChar, EndOfFile, TransposeChars, UppercaseWord, DowncaseWord, CapitalizeWord, KillLine, UnixLineDiscard, KillWord, BackwardKillWord, UnixWordRubout, CutSelection, CopySelection, DeleteHorizontalSpace, Yank, YankPop, Undo, Redo, SetMark, Cancel, QuotedInsert, DigitArgument, NegativeArgument, InsertPaste, MenuComplete, MenuCompleteBackward, AcceptLine, Newline, SearchBackward, SearchForward, InsertSuggestion, Interrupt, ExtendNeedle, ShortenNeedle, SearchAgainBackward, SearchAgainForward, AcceptSearch, AbortSearch}

-- all commands, in the order of their numbers
abbrev pub commands : List Command
commands =
    SelfInsert ∷ Ignore ∷ BeginningOfLine ∷ EndOfLine ∷ BackwardChar ∷ ForwardChar ∷ BackwardWord ∷ ForwardWord ∷
    AutoUp ∷ AutoDown ∷ PreviousHistory ∷ NextHistory ∷ BeginningOfHistory ∷ EndOfHistory ∷ SelectLeft ∷
    SelectRight ∷ SelectUp ∷ SelectDown ∷ BackwardDeleteChar ∷ DeleteChar ∷ EndOfFile ∷ TransposeChars ∷
    UppercaseWord ∷ DowncaseWord ∷ CapitalizeWord ∷ KillLine ∷ UnixLineDiscard ∷ KillWord ∷ BackwardKillWord ∷
    UnixWordRubout ∷ CutSelection ∷ CopySelection ∷ DeleteHorizontalSpace ∷ Yank ∷ YankPop ∷ Undo ∷ Redo ∷
    SetMark ∷ Cancel ∷ QuotedInsert ∷ DigitArgument ∷ NegativeArgument ∷ InsertPaste ∷ MenuComplete ∷
    MenuCompleteBackward ∷ AcceptLine ∷ Newline ∷ SearchBackward ∷ SearchForward ∷ InsertSuggestion ∷ Interrupt ∷
    ExtendNeedle ∷ ShortenNeedle ∷ SearchAgainBackward ∷ SearchAgainForward ∷ AcceptSearch ∷ AbortSearch ∷ []

-- the command with this number, if there is one
abbrev pub command_of : ℕ → Option Command
command_of number = slice_get commands number

-- the number of a command
abbrev pub number_of : Command → ℕ
number_of SelfInsert = 0
number_of Ignore = 1
number_of BeginningOfLine = 2
number_of EndOfLine = 3
number_of BackwardChar = 4
number_of ForwardChar = 5
number_of BackwardWord = 6
number_of ForwardWord = 7
number_of AutoUp = 8
number_of AutoDown = 9
number_of PreviousHistory = 10
number_of NextHistory = 11
number_of BeginningOfHistory = 12
number_of EndOfHistory = 13
number_of SelectLeft = 14
number_of SelectRight = 15
number_of SelectUp = 16
number_of SelectDown = 17
number_of BackwardDeleteChar = 18
number_of DeleteChar = 19
number_of EndOfFile = 20
number_of TransposeChars = 21
number_of UppercaseWord = 22
number_of DowncaseWord = 23
number_of CapitalizeWord = 24
number_of KillLine = 25
number_of UnixLineDiscard = 26
number_of KillWord = 27
number_of BackwardKillWord = 28
number_of UnixWordRubout = 29
number_of CutSelection = 30
number_of CopySelection = 31
number_of DeleteHorizontalSpace = 32
number_of Yank = 33
number_of YankPop = 34
number_of Undo = 35
number_of Redo = 36
number_of SetMark = 37
number_of Cancel = 38
number_of QuotedInsert = 39
number_of DigitArgument = 40
number_of NegativeArgument = 41
number_of InsertPaste = 42
number_of MenuComplete = 43
number_of MenuCompleteBackward = 44
number_of AcceptLine = 45
number_of Newline = 46
number_of SearchBackward = 47
number_of SearchForward = 48
number_of InsertSuggestion = 49
number_of Interrupt = 50
number_of ExtendNeedle = 51
number_of ShortenNeedle = 52
number_of SearchAgainBackward = 53
number_of SearchAgainForward = 54
number_of AcceptSearch = 55
number_of AbortSearch = 56
