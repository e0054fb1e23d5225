-- The list of commands and their numbers agree.
use Rattle.std.proofs.Common.{◌≡◌, ℕ, ◌+◌, ◌-◌, ◌≤◌, nat_lt, Bool, true, false, if◌then◌else◌, List, [], ◌∷◌, Some, None, IfSome, slice_get, refl, subst, ◌∙◌, arith}
use Rattle.std.proofs.lemmas.Bool.Decides.{nat_tests}
use Prim.Native.Nat.{zero, suc}
use Rattle.vi_keys.specs.declared.commands.ViCommand.{ViCommand}
use Rattle.vi_keys.specs.declared.commands.ViCommand.TheVariants.{EnterNavigation, OverwriteChar, OverwriteBack, Ignore, MoveLeft, MoveRight, MoveDown, MoveUp, MoveToRowStart, MoveToRowText, MoveToRowEnd, MoveToWord, MoveToBigWord, MoveBackWord, MoveBackBigWord, MoveToWordEnd, MoveToBigWordEnd, MoveToFirstRow, MoveToLastRow, FindAhead, FindBack, TillAhead, TillBack, FindAgain, FindTurned, MoveToBracket, DeleteOperator, ChangeOperator, YankOperator, DeleteRows, ChangeRows, YankRows, InnerWord, AroundWord, EndOperator, Leave, CutAhead, CutBack, CutRest, ChangeRest, ChangeAhead, ChangeWholeRows, YankWholeRows, ReplaceChars, SwapCase, JoinRows, PutBehind, PutBefore, InsertHere, InsertAtText, InsertBehind, InsertAtEnd, OpenBelow, OpenAbove, EnterReplace, Undo, Redo, SelectChars, SelectRows, DeleteSelection, ChangeSelection, YankSelection, DigitArgument, AcceptLine, Interrupt}
use Rattle.vi_keys.specs.ViNumbers.{number_of, command_of, commands}

-- the command with a command's number is that command
pub command_of-number_of : (command : ViCommand) → command_of (number_of command) ≡ Some command
command_of-number_of EnterNavigation = refl
command_of-number_of OverwriteChar = refl
command_of-number_of OverwriteBack = refl
command_of-number_of Ignore = refl
command_of-number_of MoveLeft = refl
command_of-number_of MoveRight = refl
command_of-number_of MoveDown = refl
command_of-number_of MoveUp = refl
command_of-number_of MoveToRowStart = refl
command_of-number_of MoveToRowText = refl
command_of-number_of MoveToRowEnd = refl
command_of-number_of MoveToWord = refl
command_of-number_of MoveToBigWord = refl
command_of-number_of MoveBackWord = refl
command_of-number_of MoveBackBigWord = refl
command_of-number_of MoveToWordEnd = refl
command_of-number_of MoveToBigWordEnd = refl
command_of-number_of MoveToFirstRow = refl
command_of-number_of MoveToLastRow = refl
command_of-number_of FindAhead = refl
command_of-number_of FindBack = refl
command_of-number_of TillAhead = refl
command_of-number_of TillBack = refl
command_of-number_of FindAgain = refl
command_of-number_of FindTurned = refl
command_of-number_of MoveToBracket = refl
command_of-number_of DeleteOperator = refl
command_of-number_of ChangeOperator = refl
command_of-number_of YankOperator = refl
command_of-number_of DeleteRows = refl
command_of-number_of ChangeRows = refl
command_of-number_of YankRows = refl
command_of-number_of InnerWord = refl
command_of-number_of AroundWord = refl
command_of-number_of EndOperator = refl
command_of-number_of Leave = refl
command_of-number_of CutAhead = refl
command_of-number_of CutBack = refl
command_of-number_of CutRest = refl
command_of-number_of ChangeRest = refl
command_of-number_of ChangeAhead = refl
command_of-number_of ChangeWholeRows = refl
command_of-number_of YankWholeRows = refl
command_of-number_of ReplaceChars = refl
command_of-number_of SwapCase = refl
command_of-number_of JoinRows = refl
command_of-number_of PutBehind = refl
command_of-number_of PutBefore = refl
command_of-number_of InsertHere = refl
command_of-number_of InsertAtText = refl
command_of-number_of InsertBehind = refl
command_of-number_of InsertAtEnd = refl
command_of-number_of OpenBelow = refl
command_of-number_of OpenAbove = refl
command_of-number_of EnterReplace = refl
command_of-number_of Undo = refl
command_of-number_of Redo = refl
command_of-number_of SelectChars = refl
command_of-number_of SelectRows = refl
command_of-number_of DeleteSelection = refl
command_of-number_of ChangeSelection = refl
command_of-number_of YankSelection = refl
command_of-number_of DigitArgument = refl
command_of-number_of AcceptLine = refl
command_of-number_of Interrupt = refl

-- the commands from this number on, one by one
numbered : ℕ → List ViCommand → Type 0
numbered first [] = Unit {0}
numbered first (command ∷ rest) = (number_of command ≡ first) × numbered (first + 1) rest

-- the item at a place of such a list has that number
numbered-at : (list : List ViCommand) (first i : ℕ) → numbered first list → IfSome (slice_get list i) (λ command. number_of command ≡ first + i)
unfolding numbered
numbered-at [] first i are = tt
numbered-at (command ∷ rest) first zero are = are.0 ∙ omega arith
numbered-at (command ∷ rest) first (suc i) are =
    let e : first + 1 + i ≡ first + suc i = omega arith in
    let P : ℕ → Type 0 = λ n. IfSome (slice_get rest i) (λ command. number_of command ≡ n) in
    subst P e (numbered-at rest (first + 1) i are.1)

commands-numbered : numbered 1000 commands
unfolding numbered
commands-numbered = (refl, (refl, (refl, (refl, (refl, (refl, (refl, (refl, (refl, (refl, (refl, (refl, (refl, (refl, (refl, (refl, (refl, (refl, (refl, (refl, (refl, (refl, (refl, (refl, (refl, (refl, (refl, (refl, (refl, (refl, (refl, (refl, (refl, (refl, (refl, (refl, (refl, (refl, (refl, (refl, (refl, (refl, (refl, (refl, (refl, (refl, (refl, (refl, (refl, (refl, (refl, (refl, (refl, (refl, (refl, (refl, (refl, (refl, (refl, (refl, (refl, (refl, (refl, (refl, (refl, tt)))))))))))))))))))))))))))))))))))))))))))))))))))))))))))))))))

-- a command that a number leads to has that number
found : (number : ℕ) (low : Bool) → nat_lt number 1000 ≡ low → IfSome (if low then None else slice_get commands (number - 1000)) (λ command. number_of command ≡ number)
found number true below = tt
found number false above =
    let least : 1000 ≤ number = grind (arith, nat_tests) in
    let e : 1000 + (number - 1000) ≡ number = omega (arith, least) in
    let P : ℕ → Type 0 = λ n. IfSome (slice_get commands (number - 1000)) (λ command. number_of command ≡ n) in
    subst P e (numbered-at commands 1000 (number - 1000) commands-numbered)

pub number_of-command_of : (number : ℕ) → IfSome (command_of number) (λ command. number_of command ≡ number)
number_of-command_of number = found number (nat_lt number 1000) refl
