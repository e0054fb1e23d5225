-- Changes whose colours there are leave attributes whose colours there are.
use Rattle.std.proofs.Common.{ℕ, Bool, true, false, cond, List, [], ◌∷◌, ◌++◌, lit<}
use Rattle.std.specs.Prelude.{filter, fold}
use Rattle.std.specs.List.{AllByRecursion, flat_map}
use Rattle.cell_grid.specs.declared.attrs.Attrs.{Attrs}
use Rattle.cell_grid.specs.Attrs.{plain}
use Rattle.style_sheet.specs.declared.classes.Class.{Class}
use Rattle.style_sheet.specs.declared.classes.Class.TheVariants.{Prompt, Continuation, RightPrompt, ArgToolbar, SearchToolbar, ControlCharacter, Selected, BottomToolbar, AutoSuggestion, ValidationToolbar, CompletionMenu, Completion, CurrentCompletion}
use Rattle.style_sheet.specs.declared.changes.Flag.TheVariants.{Bold, Italic, Underline, Blink, Reverse, Hidden, Strike}
use Rattle.style_sheet.specs.declared.changes.Change.{Change}
use Rattle.style_sheet.specs.declared.changes.Change.TheVariants.{Switch, Foreground, Background}
use Rattle.style_sheet.specs.ClassName.{classes, default_of}
use Rattle.style_sheet.specs.Spelling.{IsChange}
use Rattle.style_sheet.specs.StyleRule.{StyleRule}
use Rattle.style_sheet.specs.Grammar.{IsRule}
use Rattle.style_sheet.specs.Cascade.{changed, is_named, default_for, rules_for, changes_for, prefixes, class_attrs, HasColours}

changed-colours : (attrs : Attrs) (change : Change) → HasColours attrs → IsChange change → HasColours (changed attrs change)
changed-colours attrs (Switch Bold on) have fits = record { fg = have.fg; bg = have.bg }
changed-colours attrs (Switch Italic on) have fits = record { fg = have.fg; bg = have.bg }
changed-colours attrs (Switch Underline on) have fits = record { fg = have.fg; bg = have.bg }
changed-colours attrs (Switch Blink on) have fits = record { fg = have.fg; bg = have.bg }
changed-colours attrs (Switch Reverse on) have fits = record { fg = have.fg; bg = have.bg }
changed-colours attrs (Switch Hidden on) have fits = record { fg = have.fg; bg = have.bg }
changed-colours attrs (Switch Strike on) have fits = record { fg = have.fg; bg = have.bg }
changed-colours attrs (Foreground colour) have fits = record { fg = fits; bg = have.bg }
changed-colours attrs (Background colour) have fits = record { fg = have.fg; bg = fits }

fold-colours : (attrs : Attrs) (changes : List Change) → HasColours attrs → AllByRecursion IsChange changes → HasColours (fold changed attrs changes)
fold-colours attrs [] have each = have
fold-colours attrs (change ∷ changes) have each = fold-colours (changed attrs change) changes (changed-colours attrs change have each.0) each.1

plain-colours : HasColours plain
plain-colours = record { fg = tt; bg = tt }

-- the colours of the defaults there are
default_of-each : (class : Class) → AllByRecursion IsChange (default_of class)
default_of-each Prompt = tt
default_of-each Continuation = tt
default_of-each RightPrompt = tt
default_of-each ArgToolbar = tt
default_of-each SearchToolbar = tt
default_of-each ControlCharacter = (lit< tt, tt)
default_of-each Selected = (tt, tt)
default_of-each BottomToolbar = (tt, tt)
default_of-each AutoSuggestion = (lit< tt, tt)
default_of-each ValidationToolbar = (lit< tt, (lit< tt, tt))
default_of-each CompletionMenu = (lit< tt, (lit< tt, tt))
default_of-each Completion = tt
default_of-each CurrentCompletion = (tt, tt)

each-append : (xs ys : List Change) → AllByRecursion IsChange xs → AllByRecursion IsChange ys → AllByRecursion IsChange (xs ++ ys)
each-append [] ys p q = q
each-append (x ∷ xs) ys p q = (p.0, each-append xs ys p.1 q)

rules_for-from : (test : Bool) (rule : StyleRule) (rest : List StyleRule) → IsRule rule → AllByRecursion IsChange (flat_map (λ (r : StyleRule). r.changes) rest) → AllByRecursion IsChange (flat_map (λ (r : StyleRule). r.changes) (cond test (rule ∷ rest) rest))
rules_for-from true rule rest have each = each-append rule.changes (flat_map (λ (r : StyleRule). r.changes) rest) have.each each
rules_for-from false rule rest have each = each

rules_for-each : (rules : List StyleRule) (name : List ℕ) → AllByRecursion IsRule rules → AllByRecursion IsChange (rules_for rules name)
rules_for-each [] name each = tt
rules_for-each (rule ∷ rules) name each =
    rules_for-from (is_named name rule.class) rule (filter (λ (r : StyleRule). is_named name r.class) rules) each.0 (rules_for-each rules name each.1)

defaults-each : (found : List Class) → AllByRecursion IsChange (flat_map default_of found)
defaults-each [] = tt
defaults-each (class ∷ found) = each-append (default_of class) (flat_map default_of found) (default_of-each class) (defaults-each found)

names-each : (rules : List StyleRule) (names : List (List ℕ)) → AllByRecursion IsRule rules → AllByRecursion IsChange (flat_map (changes_for rules) names)
names-each rules [] each = tt
names-each rules (name ∷ names) each =
    each-append (changes_for rules name) (flat_map (changes_for rules) names)
    (each-append (default_for name) (rules_for rules name) (defaults-each (filter (is_named name) classes)) (rules_for-each rules name each))
    (names-each rules names each)

pub class_attrs-colours : (rules : List StyleRule) (name : List ℕ) → AllByRecursion IsRule rules → HasColours (class_attrs rules name)
unfolding class_attrs
class_attrs-colours rules name each =
    fold-colours plain (flat_map (changes_for rules) (prefixes name)) plain-colours (names-each rules (prefixes name) each)
