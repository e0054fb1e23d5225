-- The classes in use: their names, and the changes that each comes with.
use Rattle.std.specs.Prelude.{ℕ, List, [], ◌∷◌, Some, true, codes}
use Rattle.cell_grid.specs.declared.attrs.Colour.TheVariants.{Ansi}
use Rattle.style_sheet.specs.declared.classes.Class.{Class}
use Rattle.style_sheet.specs.declared.classes.Class.TheVariants.{Prompt, Continuation, RightPrompt, ArgToolbar, SearchToolbar, ControlCharacter, Selected, BottomToolbar, AutoSuggestion, ValidationToolbar, CompletionMenu, Completion, CurrentCompletion}
use Rattle.style_sheet.specs.declared.changes.Change.{Change}
use Rattle.style_sheet.specs.declared.changes.Change.TheVariants.{Switch, Foreground, Background}
use Rattle.style_sheet.specs.declared.changes.Flag.TheVariants.{Reverse}

-- the name of a class; the parts of a dotted name have a dot between them
abbrev pub class_name : Class → List ℕ
class_name Prompt = codes "prompt"
class_name Continuation = codes "continuation"
class_name RightPrompt = codes "right-prompt"
class_name ArgToolbar = codes "arg-toolbar"
class_name SearchToolbar = codes "search-toolbar"
class_name ControlCharacter = codes "control-character"
class_name Selected = codes "selected"
class_name BottomToolbar = codes "bottom-toolbar"
class_name AutoSuggestion = codes "auto-suggestion"
class_name ValidationToolbar = codes "validation-toolbar"
class_name CompletionMenu = codes "completion-menu"
class_name Completion = codes "completion-menu.completion"
class_name CurrentCompletion = codes "completion-menu.completion.current"

-- every class
abbrev pub classes : List Class
classes =
    Prompt ∷ Continuation ∷ RightPrompt ∷ ArgToolbar ∷ SearchToolbar ∷ ControlCharacter ∷ Selected ∷ BottomToolbar ∷ AutoSuggestion ∷ ValidationToolbar ∷ CompletionMenu ∷ Completion ∷ CurrentCompletion ∷ []

-- the place of a class in that list
abbrev pub place : Class → ℕ
place Prompt = 0
place Continuation = 1
place RightPrompt = 2
place ArgToolbar = 3
place SearchToolbar = 4
place ControlCharacter = 5
place Selected = 6
place BottomToolbar = 7
place AutoSuggestion = 8
place ValidationToolbar = 9
place CompletionMenu = 10
place Completion = 11
place CurrentCompletion = 12

-- the default of a class: what it changes where no rule is for it. Ansi 0 is black, 1 red, 4 blue, 7 white, 8 bright black
abbrev pub default_of : Class → List Change
default_of ControlCharacter = Foreground (Some (Ansi 4)) ∷ []
default_of Selected = Switch Reverse true ∷ []
default_of BottomToolbar = Switch Reverse true ∷ []
default_of CurrentCompletion = Switch Reverse true ∷ []
default_of AutoSuggestion = Foreground (Some (Ansi 8)) ∷ []
default_of CompletionMenu = Foreground (Some (Ansi 0)) ∷ Background (Some (Ansi 7)) ∷ []
default_of ValidationToolbar = Foreground (Some (Ansi 7)) ∷ Background (Some (Ansi 1)) ∷ []
default_of class = []
