-- Each class and each flag has a place in the table that is searched for its name.
use Rattle.std.proofs.Common.{◌≡◌, ℕ, ◌<◌, List, [], ◌∷◌, get_or, refl, arith}
use Rattle.style_sheet.specs.declared.classes.Class.{Class}
use Rattle.style_sheet.specs.declared.classes.Class.TheVariants.{Prompt, Continuation, RightPrompt, ArgToolbar, SearchToolbar, ControlCharacter, Selected, BottomToolbar, AutoSuggestion, ValidationToolbar, CompletionMenu, Completion, CurrentCompletion}
use Rattle.style_sheet.specs.declared.classes.TheConstants.{CLASS_COUNT}
use Rattle.style_sheet.specs.declared.changes.Flag.{Flag}
use Rattle.style_sheet.specs.declared.changes.Flag.TheVariants.{Bold, Italic, Underline, Blink, Reverse, Hidden, Strike}
use Rattle.style_sheet.specs.ClassName.{classes, place}

pub place-below : (class : Class) → place class < CLASS_COUNT
place-below Prompt = omega arith
place-below Continuation = omega arith
place-below RightPrompt = omega arith
place-below ArgToolbar = omega arith
place-below SearchToolbar = omega arith
place-below ControlCharacter = omega arith
place-below Selected = omega arith
place-below BottomToolbar = omega arith
place-below AutoSuggestion = omega arith
place-below ValidationToolbar = omega arith
place-below CompletionMenu = omega arith
place-below Completion = omega arith
place-below CurrentCompletion = omega arith

-- the class in its place
pub at_place : (class : Class) → get_or classes (place class) Prompt ≡ class
at_place Prompt = refl
at_place Continuation = refl
at_place RightPrompt = refl
at_place ArgToolbar = refl
at_place SearchToolbar = refl
at_place ControlCharacter = refl
at_place Selected = refl
at_place BottomToolbar = refl
at_place AutoSuggestion = refl
at_place ValidationToolbar = refl
at_place CompletionMenu = refl
at_place Completion = refl
at_place CurrentCompletion = refl

abbrev pub flags : List Flag
flags = Bold ∷ Italic ∷ Underline ∷ Blink ∷ Reverse ∷ Hidden ∷ Strike ∷ []

-- a place of the table where the flag stands
abbrev pub FlagPlace : Flag → Type 0
FlagPlace flag = (k : ℕ) × (k < 7) × (get_or flags k Bold ≡ flag)

pub flag_place : (flag : Flag) → FlagPlace flag
flag_place Bold = (0, omega arith, refl)
flag_place Italic = (1, omega arith, refl)
flag_place Underline = (2, omega arith, refl)
flag_place Blink = (3, omega arith, refl)
flag_place Reverse = (4, omega arith, refl)
flag_place Hidden = (5, omega arith, refl)
flag_place Strike = (6, omega arith, refl)
