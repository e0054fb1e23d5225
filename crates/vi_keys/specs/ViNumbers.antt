-- The numbers of the commands: their places in one list, from 1,000 on.
use Rattle.std.specs.Prelude.{ℕ, ◌-◌, nat_lt, List, [], ◌∷◌, slice_get, Option, None, if◌then◌else◌}
use Rattle.vi_keys.specs.declared.commands.ViCommand.{ViCommand}
use Rattle.vi_keys.specs.declared.commands.ViCommand.TheVariants.{EnterNavigation, OverwriteChar, OverwriteBack, Ignore, MoveLeft, MoveRight, MoveDown, MoveUp, MoveToRowStart, MoveToRowText, MoveToRowEnd, MoveToWord, MoveToBigWord, MoveBackWord, MoveBackBigWord, MoveToWordEnd, MoveToBigWordEnd, MoveToFirstRow, MoveToLastRow, FindAhead, FindBack, TillAhead, TillBack, FindAgain, FindTurned, MoveToBracket, DeleteOperator, ChangeOperator, YankOperator, DeleteRows, ChangeRows, YankRows, InnerWord, AroundWord, EndOperator, Leave, CutAhead, CutBack, CutRest, ChangeRest, ChangeAhead, ChangeWholeRows, YankWholeRows, ReplaceChars, SwapCase, JoinRows, PutBehind, PutBefore, InsertHere, InsertAtText, InsertBehind, InsertAtEnd, OpenBelow, OpenAbove, EnterReplace, Undo, Redo, SelectChars, SelectRows, DeleteSelection, ChangeSelection, YankSelection, DigitArgument, AcceptLine, Interrupt}

-- all commands, in the order of their numbers
abbrev pub commands : List ViCommand
commands =
    EnterNavigation ∷ OverwriteChar ∷ OverwriteBack ∷ Ignore ∷ MoveLeft ∷ MoveRight ∷ MoveDown ∷ MoveUp ∷
    MoveToRowStart ∷ MoveToRowText ∷ MoveToRowEnd ∷ MoveToWord ∷ MoveToBigWord ∷ MoveBackWord ∷
    MoveBackBigWord ∷ MoveToWordEnd ∷ MoveToBigWordEnd ∷ MoveToFirstRow ∷ MoveToLastRow ∷ FindAhead ∷ FindBack ∷
    TillAhead ∷ TillBack ∷ FindAgain ∷ FindTurned ∷ MoveToBracket ∷ DeleteOperator ∷ ChangeOperator ∷
    YankOperator ∷ DeleteRows ∷ ChangeRows ∷ YankRows ∷ InnerWord ∷ AroundWord ∷ EndOperator ∷ Leave ∷
    CutAhead ∷ CutBack ∷ CutRest ∷ ChangeRest ∷ ChangeAhead ∷ ChangeWholeRows ∷ YankWholeRows ∷ ReplaceChars ∷
    SwapCase ∷ JoinRows ∷ PutBehind ∷ PutBefore ∷ InsertHere ∷ InsertAtText ∷ InsertBehind ∷ InsertAtEnd ∷
    OpenBelow ∷ OpenAbove ∷ EnterReplace ∷ Undo ∷ Redo ∷ SelectChars ∷ SelectRows ∷ DeleteSelection ∷
    ChangeSelection ∷ YankSelection ∷ DigitArgument ∷ AcceptLine ∷ Interrupt ∷ []

-- the command with this number, if there is one
abbrev pub command_of : ℕ → Option ViCommand
command_of number = if nat_lt number 1000 then None else slice_get commands (number - 1000)

-- the number of a command
abbrev pub number_of : ViCommand → ℕ
number_of EnterNavigation = 1000
number_of OverwriteChar = 1001
number_of OverwriteBack = 1002
number_of Ignore = 1003
number_of MoveLeft = 1004
number_of MoveRight = 1005
number_of MoveDown = 1006
number_of MoveUp = 1007
number_of MoveToRowStart = 1008
number_of MoveToRowText = 1009
number_of MoveToRowEnd = 1010
number_of MoveToWord = 1011
number_of MoveToBigWord = 1012
number_of MoveBackWord = 1013
number_of MoveBackBigWord = 1014
number_of MoveToWordEnd = 1015
number_of MoveToBigWordEnd = 1016
number_of MoveToFirstRow = 1017
number_of MoveToLastRow = 1018
number_of FindAhead = 1019
number_of FindBack = 1020
number_of TillAhead = 1021
number_of TillBack = 1022
number_of FindAgain = 1023
number_of FindTurned = 1024
number_of MoveToBracket = 1025
number_of DeleteOperator = 1026
number_of ChangeOperator = 1027
number_of YankOperator = 1028
number_of DeleteRows = 1029
number_of ChangeRows = 1030
number_of YankRows = 1031
number_of InnerWord = 1032
number_of AroundWord = 1033
number_of EndOperator = 1034
number_of Leave = 1035
number_of CutAhead = 1036
number_of CutBack = 1037
number_of CutRest = 1038
number_of ChangeRest = 1039
number_of ChangeAhead = 1040
number_of ChangeWholeRows = 1041
number_of YankWholeRows = 1042
number_of ReplaceChars = 1043
number_of SwapCase = 1044
number_of JoinRows = 1045
number_of PutBehind = 1046
number_of PutBefore = 1047
number_of InsertHere = 1048
number_of InsertAtText = 1049
number_of InsertBehind = 1050
number_of InsertAtEnd = 1051
number_of OpenBelow = 1052
number_of OpenAbove = 1053
number_of EnterReplace = 1054
number_of Undo = 1055
number_of Redo = 1056
number_of SelectChars = 1057
number_of SelectRows = 1058
number_of DeleteSelection = 1059
number_of ChangeSelection = 1060
number_of YankSelection = 1061
number_of DigitArgument = 1062
number_of AcceptLine = 1063
number_of Interrupt = 1064
