-- Commands in groups, each of which has its rows in one place.
use Rattle.edit_state.specs.declared.commands.Command.{Command}
use Rattle.edit_state.specs.declared.commands.Command.TheVariants as does
use Rattle.edit_cmds.specs.declared.groups.Group.{Group}
use Rattle.edit_cmds.specs.declared.groups.Group.TheVariants.{Moving, Inserting, Cutting, Rewriting, Choosing, Searching, Answering}

-- the group of a command
abbrev pub group_of : Command → Group
group_of does.BeginningOfLine = Moving
group_of does.EndOfLine = Moving
group_of does.BackwardChar = Moving
group_of does.ForwardChar = Moving
group_of does.BackwardWord = Moving
group_of does.ForwardWord = Moving
group_of does.SelectLeft = Moving
group_of does.SelectRight = Moving
group_of does.SelectUp = Moving
group_of does.SelectDown = Moving
group_of does.SetMark = Moving
group_of does.SelfInsert = Inserting
group_of does.QuotedInsert = Inserting
group_of does.InsertPaste = Inserting
group_of does.Newline = Inserting
group_of does.InsertSuggestion = Inserting
group_of does.Yank = Inserting
group_of does.YankPop = Inserting
group_of does.BackwardDeleteChar = Cutting
group_of does.DeleteChar = Cutting
group_of does.KillLine = Cutting
group_of does.UnixLineDiscard = Cutting
group_of does.KillWord = Cutting
group_of does.BackwardKillWord = Cutting
group_of does.UnixWordRubout = Cutting
group_of does.CutSelection = Cutting
group_of does.CopySelection = Cutting
group_of does.DeleteHorizontalSpace = Cutting
group_of does.TransposeChars = Rewriting
group_of does.UppercaseWord = Rewriting
group_of does.DowncaseWord = Rewriting
group_of does.CapitalizeWord = Rewriting
group_of does.Undo = Rewriting
group_of does.Redo = Rewriting
group_of does.AutoUp = Choosing
group_of does.AutoDown = Choosing
group_of does.PreviousHistory = Choosing
group_of does.NextHistory = Choosing
group_of does.BeginningOfHistory = Choosing
group_of does.EndOfHistory = Choosing
group_of does.MenuComplete = Choosing
group_of does.MenuCompleteBackward = Choosing
group_of does.Cancel = Choosing
group_of does.SearchBackward = Searching
group_of does.SearchForward = Searching
group_of does.ExtendNeedle = Searching
group_of does.ShortenNeedle = Searching
group_of does.SearchAgainBackward = Searching
group_of does.SearchAgainForward = Searching
group_of does.AcceptSearch = Searching
group_of does.AbortSearch = Searching
group_of _ = Answering
