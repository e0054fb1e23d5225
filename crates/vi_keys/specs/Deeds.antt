-- What each command does.
use Rattle.std.specs.Prelude.{true, false, Option, None, Some}
use Rattle.edit_state.specs.declared.states.Done.TheVariants as done
use Rattle.edit_state.specs.declared.vi_states.ViMode.TheVariants as mode
use Rattle.edit_state.specs.declared.vi_states.Operator.TheVariants as operator
use Rattle.vi_keys.specs.declared.commands.ViCommand.{ViCommand}
use Rattle.vi_keys.specs.declared.commands.ViCommand.TheVariants.{MoveLeft, MoveRight, MoveDown, MoveUp, MoveToRowStart, MoveToRowText, MoveToRowEnd, MoveToWord, MoveToBigWord, MoveBackWord, MoveBackBigWord, MoveToWordEnd, MoveToBigWordEnd, MoveToFirstRow, MoveToLastRow, FindAhead, FindBack, TillAhead, TillBack, FindAgain, FindTurned, MoveToBracket, DeleteOperator, ChangeOperator, YankOperator, DeleteRows, ChangeRows, YankRows, DeleteSelection, ChangeSelection, YankSelection, CutAhead, CutBack, CutRest, ChangeRest, ChangeAhead, ChangeWholeRows, YankWholeRows, InnerWord, AroundWord, EnterNavigation, OverwriteChar, OverwriteBack, EndOperator, Leave, ReplaceChars, SwapCase, JoinRows, PutBehind, PutBefore, InsertHere, InsertAtText, InsertBehind, InsertAtEnd, OpenBelow, OpenAbove, EnterReplace, Undo, Redo, SelectChars, SelectRows, DigitArgument, AcceptLine, Interrupt}
use Rattle.vi_keys.specs.declared.motions.Motion.{Motion}
use Rattle.vi_keys.specs.declared.motions.Motion.TheVariants as go
use Rattle.vi_keys.specs.declared.deeds.Deed.{Deed}
use Rattle.vi_keys.specs.declared.deeds.Deed.TheVariants as deed

-- the motion of a command
abbrev pub motion_of : ViCommand → Option Motion
motion_of MoveLeft = Some go.Left
motion_of MoveRight = Some go.Right
motion_of MoveDown = Some go.Down
motion_of MoveUp = Some go.Up
motion_of MoveToRowStart = Some go.RowStart
motion_of MoveToRowText = Some go.RowText
motion_of MoveToRowEnd = Some go.RowEnd
motion_of MoveToWord = Some (go.WordStart false)
motion_of MoveToBigWord = Some (go.WordStart true)
motion_of MoveBackWord = Some (go.WordBack false)
motion_of MoveBackBigWord = Some (go.WordBack true)
motion_of MoveToWordEnd = Some (go.WordLast false)
motion_of MoveToBigWordEnd = Some (go.WordLast true)
motion_of MoveToFirstRow = Some go.FirstRow
motion_of MoveToLastRow = Some go.LastRow
motion_of FindAhead = Some (go.Character true false)
motion_of FindBack = Some (go.Character false false)
motion_of TillAhead = Some (go.Character true true)
motion_of TillBack = Some (go.Character false true)
motion_of FindAgain = Some go.LastFind
motion_of FindTurned = Some go.LastFindTurned
motion_of MoveToBracket = Some go.Bracket
motion_of _ = None

-- what a command with an operator does
abbrev pub operation_of : ViCommand → Option Deed
operation_of DeleteOperator = Some (deed.Await operator.Delete)
operation_of ChangeOperator = Some (deed.Await operator.Change)
operation_of YankOperator = Some (deed.Await operator.Yank)
operation_of DeleteRows = Some (deed.Again operator.Delete)
operation_of ChangeRows = Some (deed.Again operator.Change)
operation_of YankRows = Some (deed.Again operator.Yank)
operation_of DeleteSelection = Some (deed.OnSelection operator.Delete)
operation_of ChangeSelection = Some (deed.OnSelection operator.Change)
operation_of YankSelection = Some (deed.OnSelection operator.Yank)
operation_of CutAhead = Some (deed.OnMotion operator.Delete go.Right)
operation_of CutBack = Some (deed.OnMotion operator.Delete go.Left)
operation_of CutRest = Some (deed.OnMotion operator.Delete go.RowEnd)
operation_of ChangeRest = Some (deed.OnMotion operator.Change go.RowEnd)
operation_of ChangeAhead = Some (deed.OnMotion operator.Change go.Right)
operation_of ChangeWholeRows = Some (deed.OnRows operator.Change)
operation_of YankWholeRows = Some (deed.OnRows operator.Yank)
operation_of InnerWord = Some (deed.OnWord false)
operation_of AroundWord = Some (deed.OnWord true)
operation_of _ = None

-- what each of the others does; `Ignore` answers that all is as before
abbrev pub other_of : ViCommand → Deed
other_of EnterNavigation = deed.EnterNavigation
other_of OverwriteChar = deed.Overwrite
other_of OverwriteBack = deed.OverwriteBack
other_of EndOperator = deed.EndOperator
other_of Leave = deed.Leave
other_of ReplaceChars = deed.Replace
other_of SwapCase = deed.SwapCase
other_of JoinRows = deed.Join
other_of PutBehind = deed.Put true
other_of PutBefore = deed.Put false
other_of InsertHere = deed.Enter mode.Insert
other_of InsertAtText = deed.InsertAt go.RowText
other_of InsertBehind = deed.InsertAt go.Right
other_of InsertAtEnd = deed.InsertAt go.RowEnd
other_of OpenBelow = deed.Open true
other_of OpenAbove = deed.Open false
other_of EnterReplace = deed.Enter mode.Replace
other_of Undo = deed.Undo
other_of Redo = deed.Redo
other_of SelectChars = deed.Select false
other_of SelectRows = deed.Select true
other_of DigitArgument = deed.Digit
other_of AcceptLine = deed.Answer done.Accept
other_of Interrupt = deed.Answer done.Interrupt
other_of _ = deed.Answer done.Same

abbrev pub operation_or : Option Deed → Deed → Deed
operation_or None other = other
operation_or (Some found) other = found

abbrev pub motion_or : Option Motion → Deed → Deed
motion_or None other = other
motion_or (Some motion) other = deed.Move motion

-- what a command does
abbrev pub deed_of : ViCommand → Deed
deed_of command = motion_or (motion_of command) (operation_or (operation_of command) (other_of command))
