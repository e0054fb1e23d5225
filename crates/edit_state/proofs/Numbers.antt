-- The list of commands and their numbers agree.
use Rattle.std.proofs.Common.{◌≡◌, ℕ, ◌+◌, List, [], ◌∷◌, Some, IfSome, slice_get, refl, subst, ◌∙◌, arith}
use Prim.Native.Nat.{zero, suc}
use Rattle.edit_state.specs.declared.commands.Command.{Command}
use Rattle.edit_state.specs.declared.commands.Command.TheVariants.{SelfInsert, Ignore, BeginningOfLine, EndOfLine, BackwardChar, ForwardChar, BackwardWord, ForwardWord, AutoUp, AutoDown, PreviousHistory, NextHistory, BeginningOfHistory, EndOfHistory, SelectLeft, SelectRight, SelectUp, SelectDown, BackwardDeleteChar, DeleteChar, EndOfFile, TransposeChars, UppercaseWord, DowncaseWord, CapitalizeWord, KillLine, UnixLineDiscard, KillWord, BackwardKillWord, UnixWordRubout, CutSelection, CopySelection, DeleteHorizontalSpace, Yank, YankPop, Undo, Redo, SetMark, Cancel, QuotedInsert, DigitArgument, NegativeArgument, InsertPaste, MenuComplete, MenuCompleteBackward, AcceptLine, Newline, SearchBackward, SearchForward, InsertSuggestion, Interrupt, ExtendNeedle, ShortenNeedle, SearchAgainBackward, SearchAgainForward, AcceptSearch, AbortSearch}
use Rattle.edit_state.specs.CommandNumbers.{number_of, command_of, commands}

-- the command with a command's number is that command
pub command_of-number_of : (command : Command) → command_of (number_of command) ≡ Some command
command_of-number_of SelfInsert = refl
command_of-number_of Ignore = refl
command_of-number_of BeginningOfLine = refl
command_of-number_of EndOfLine = refl
command_of-number_of BackwardChar = refl
command_of-number_of ForwardChar = refl
command_of-number_of BackwardWord = refl
command_of-number_of ForwardWord = refl
command_of-number_of AutoUp = refl
command_of-number_of AutoDown = refl
command_of-number_of PreviousHistory = refl
command_of-number_of NextHistory = refl
command_of-number_of BeginningOfHistory = refl
command_of-number_of EndOfHistory = refl
command_of-number_of SelectLeft = refl
command_of-number_of SelectRight = refl
command_of-number_of SelectUp = refl
command_of-number_of SelectDown = refl
command_of-number_of BackwardDeleteChar = refl
command_of-number_of DeleteChar = refl
command_of-number_of EndOfFile = refl
command_of-number_of TransposeChars = refl
command_of-number_of UppercaseWord = refl
command_of-number_of DowncaseWord = refl
command_of-number_of CapitalizeWord = refl
command_of-number_of KillLine = refl
command_of-number_of UnixLineDiscard = refl
command_of-number_of KillWord = refl
command_of-number_of BackwardKillWord = refl
command_of-number_of UnixWordRubout = refl
command_of-number_of CutSelection = refl
command_of-number_of CopySelection = refl
command_of-number_of DeleteHorizontalSpace = refl
command_of-number_of Yank = refl
command_of-number_of YankPop = refl
command_of-number_of Undo = refl
command_of-number_of Redo = refl
command_of-number_of SetMark = refl
command_of-number_of Cancel = refl
command_of-number_of QuotedInsert = refl
command_of-number_of DigitArgument = refl
command_of-number_of NegativeArgument = refl
command_of-number_of InsertPaste = refl
command_of-number_of MenuComplete = refl
command_of-number_of MenuCompleteBackward = refl
command_of-number_of AcceptLine = refl
command_of-number_of Newline = refl
command_of-number_of SearchBackward = refl
command_of-number_of SearchForward = refl
command_of-number_of InsertSuggestion = refl
command_of-number_of Interrupt = refl
command_of-number_of ExtendNeedle = refl
command_of-number_of ShortenNeedle = refl
command_of-number_of SearchAgainBackward = refl
command_of-number_of SearchAgainForward = refl
command_of-number_of AcceptSearch = refl
command_of-number_of AbortSearch = refl

-- the commands of a list have the numbers from `first` on
numbered : ℕ → List Command → Type 0
numbered first [] = Unit {0}
numbered first (command ∷ rest) = (number_of command ≡ first) × numbered (first + 1) rest

-- the item at a place of such a list has that number
numbered-at : (list : List Command) (first i : ℕ) → numbered first list → IfSome (slice_get list i) (λ command. number_of command ≡ first + i)
unfolding numbered
numbered-at [] first i are = tt
numbered-at (command ∷ rest) first zero are = are.0 ∙ omega arith
numbered-at (command ∷ rest) first (suc i) are =
    let e : first + 1 + i ≡ first + suc i = omega arith in
    let P : ℕ → Type 0 = λ n. IfSome (slice_get rest i) (λ command. number_of command ≡ n) in
    subst P e (numbered-at rest (first + 1) i are.1)

commands-numbered : numbered 0 commands
unfolding numbered
commands-numbered = (refl, (refl, (refl, (refl, (refl, (refl, (refl, (refl, (refl, (refl, (refl, (refl, (refl, (refl, (refl, (refl, (refl, (refl, (refl, (refl, (refl, (refl, (refl, (refl, (refl, (refl, (refl, (refl, (refl, (refl, (refl, (refl, (refl, (refl, (refl, (refl, (refl, (refl, (refl, (refl, (refl, (refl, (refl, (refl, (refl, (refl, (refl, (refl, (refl, (refl, (refl, (refl, (refl, (refl, (refl, (refl, (refl, tt)))))))))))))))))))))))))))))))))))))))))))))))))))))))))

-- a command that a number leads to has that number
pub number_of-command_of : (number : ℕ) → IfSome (command_of number) (λ command. number_of command ≡ number)
number_of-command_of number =
    let e : 0 + number ≡ number = omega arith in
    let P : ℕ → Type 0 = λ n. IfSome (command_of number) (λ command. number_of command ≡ n) in
    subst P e (numbered-at commands 0 number commands-numbered)
