-- Patches do what their changes do, and the patches of the classes what the rules do.
use Rattle.std.proofs.Common.{◌≡◌, ◌≢◌, ℕ, ◌<◌, Bool, true, false, cond, List, [], ◌∷◌, ◌++◌, length, get_or, set, refl, sym, ap, ◌∙◌, get_or-set_other}
use Rattle.std.specs.Prelude.{◌==◌, filter, fold}
use Rattle.std.specs.List.{flat_map}
use Rattle.std.proofs.lemmas.Bool.{cond-false, cond-true, eqb-true, eqb-false}
use Rattle.std.proofs.lemmas.Grind.{flat_map-append, get_or-set_at}
use Rattle.std.proofs.lemmas.List.{append-nil}
use Rattle.std.proofs.lemmas.List.Elements.{filter-append}
use Rattle.std.proofs.lemmas.List.Sums.{fold-append}
use Rattle.cell_grid.specs.declared.attrs.Attrs.{Attrs}
use Rattle.style_sheet.specs.declared.classes.Class.{Class}
use Rattle.style_sheet.specs.declared.classes.Class.TheVariants.{Prompt, Continuation, RightPrompt, ArgToolbar, SearchToolbar, ControlCharacter, Selected, BottomToolbar, AutoSuggestion, ValidationToolbar, CompletionMenu, Completion, CurrentCompletion}
use Rattle.style_sheet.specs.declared.changes.Flag.TheVariants.{Bold, Italic, Underline, Blink, Reverse, Hidden, Strike}
use Rattle.style_sheet.specs.declared.changes.Change.{Change}
use Rattle.style_sheet.specs.declared.changes.Change.TheVariants.{Switch, Foreground, Background}
use Rattle.style_sheet.specs.declared.patches.Patch.{Patch}
use Rattle.style_sheet.specs.ClassName.{class_name, default_of, place}
use Rattle.style_sheet.specs.StyleRule.{StyleRule}
use Rattle.style_sheet.specs.Cascade.{changed, is_named, default_for, rules_for, changes_for}
use Rattle.style_sheet.specs.Patches.{no_changes, patched, with_change, ArePatchesOf}

patched-change : (attrs : Attrs) (patch : Patch) (change : Change) → patched attrs (with_change patch change) ≡ changed (patched attrs patch) change
patched-change attrs patch (Switch Bold on) = refl
patched-change attrs patch (Switch Italic on) = refl
patched-change attrs patch (Switch Underline on) = refl
patched-change attrs patch (Switch Blink on) = refl
patched-change attrs patch (Switch Reverse on) = refl
patched-change attrs patch (Switch Hidden on) = refl
patched-change attrs patch (Switch Strike on) = refl
patched-change attrs patch (Foreground colour) = refl
patched-change attrs patch (Background colour) = refl

patched-fold : (attrs : Attrs) (patch : Patch) (changes : List Change) → patched attrs (fold with_change patch changes) ≡ fold changed (patched attrs patch) changes
patched-fold attrs patch [] = refl
patched-fold attrs patch (change ∷ changes) =
    patched-fold attrs (with_change patch change) changes ∙ ap (λ before. fold changed before changes) (patched-change attrs patch change)

-- classes have equal names exactly where they have equal places
same_place : (a b : Class) → is_named (class_name a) b ≡ (place a == place b)
same_place Prompt Prompt = refl
same_place Prompt b = refl
same_place Continuation Continuation = refl
same_place Continuation b = refl
same_place RightPrompt RightPrompt = refl
same_place RightPrompt b = refl
same_place ArgToolbar ArgToolbar = refl
same_place ArgToolbar b = refl
same_place SearchToolbar SearchToolbar = refl
same_place SearchToolbar b = refl
same_place ControlCharacter ControlCharacter = refl
same_place ControlCharacter b = refl
same_place Selected Selected = refl
same_place Selected b = refl
same_place BottomToolbar BottomToolbar = refl
same_place BottomToolbar b = refl
same_place AutoSuggestion AutoSuggestion = refl
same_place AutoSuggestion b = refl
same_place ValidationToolbar ValidationToolbar = refl
same_place ValidationToolbar b = refl
same_place CompletionMenu CompletionMenu = refl
same_place CompletionMenu b = refl
same_place Completion Completion = refl
same_place Completion b = refl
same_place CurrentCompletion CurrentCompletion = refl
same_place CurrentCompletion b = refl

-- the rules for a name, with one more rule
rules_for-more : (front : List StyleRule) (rule : StyleRule) (name : List ℕ) → rules_for (front ++ rule ∷ []) name ≡ rules_for front name ++ flat_map (λ (r : StyleRule). r.changes) (cond (is_named name rule.class) (rule ∷ []) [])
rules_for-more front rule name =
    let test : StyleRule → Bool = λ r. is_named name r.class in
    let changes : StyleRule → List Change = λ r. r.changes in
    ap (λ found. flat_map changes found) (filter-append test front (rule ∷ [])) ∙ flat_map-append changes (filter test front) (cond (test rule) (rule ∷ []) [])

rules_for-named : (front : List StyleRule) (rule : StyleRule) (name : List ℕ) → is_named name rule.class ≡ true → rules_for (front ++ rule ∷ []) name ≡ rules_for front name ++ rule.changes
rules_for-named front rule name named =
    rules_for-more front rule name ∙ ap (λ found. rules_for front name ++ flat_map (λ (r : StyleRule). r.changes) found) (cond-true (is_named name rule.class) (rule ∷ []) [] named)
    ∙ ap (λ changes. rules_for front name ++ changes) (append-nil rule.changes)

rules_for-other : (front : List StyleRule) (rule : StyleRule) (name : List ℕ) → is_named name rule.class ≡ false → rules_for (front ++ rule ∷ []) name ≡ rules_for front name
rules_for-other front rule name other =
    rules_for-more front rule name ∙ ap (λ found. rules_for front name ++ flat_map (λ (r : StyleRule). r.changes) found) (cond-false (is_named name rule.class) (rule ∷ []) [] other)
    ∙ append-nil (rules_for front name)

-- the patches after one more rule
abbrev pub more_patches : List Patch → StyleRule → List Patch
more_patches patches rule = set patches (place rule.class) (fold with_change (get_or patches (place rule.class) no_changes) rule.changes)

more_patches-at : (patches : List Patch) (front : List StyleRule) (rule : StyleRule) → place rule.class < length patches → ArePatchesOf front patches → (class : Class) (attrs : Attrs) (test : Bool) → (place class == place rule.class) ≡ test
    → patched attrs (get_or (more_patches patches rule) (place class) no_changes) ≡ fold changed attrs (rules_for (front ++ rule ∷ []) (class_name class))
more_patches-at patches front rule below are class attrs true test =
    let named : is_named (class_name class) rule.class ≡ true = same_place class rule.class ∙ test in
    let same : place class ≡ place rule.class = eqb-true (place class) (place rule.class) test in
    let before : Patch = get_or patches (place rule.class) no_changes in
    ap (λ patch. patched attrs patch) (get_or-set_at patches (place rule.class) (place class) (fold with_change before rule.changes) no_changes same below)
    ∙ patched-fold attrs before rule.changes
    ∙ ap (λ k. fold changed (patched attrs (get_or patches k no_changes)) rule.changes) (sym same)
    ∙ ap (λ so_far. fold changed so_far rule.changes) (are class attrs)
    ∙ sym (fold-append changed attrs (rules_for front (class_name class)) rule.changes)
    ∙ ap (λ changes. fold changed attrs changes) (sym (rules_for-named front rule (class_name class) named))
more_patches-at patches front rule below are class attrs false test =
    let other : is_named (class_name class) rule.class ≡ false = same_place class rule.class ∙ test in
    let apart : place class ≢ place rule.class = eqb-false (place class) (place rule.class) test in
    ap (λ patch. patched attrs patch) (get_or-set_other patches (place rule.class) (place class) (fold with_change (get_or patches (place rule.class) no_changes) rule.changes) no_changes apart)
    ∙ are class attrs
    ∙ ap (λ changes. fold changed attrs changes) (sym (rules_for-other front rule (class_name class) other))

pub more_patches-are : (patches : List Patch) (front : List StyleRule) (rule : StyleRule) → place rule.class < length patches → ArePatchesOf front patches → ArePatchesOf (front ++ rule ∷ []) (more_patches patches rule)
more_patches-are patches front rule below are = λ class attrs. more_patches-at patches front rule below are class attrs (place class == place rule.class) refl

default_for-class : (class : Class) → default_for (class_name class) ≡ default_of class
default_for-class Prompt = refl
default_for-class Continuation = refl
default_for-class RightPrompt = refl
default_for-class ArgToolbar = refl
default_for-class SearchToolbar = refl
default_for-class ControlCharacter = refl
default_for-class Selected = refl
default_for-class BottomToolbar = refl
default_for-class AutoSuggestion = refl
default_for-class ValidationToolbar = refl
default_for-class CompletionMenu = refl
default_for-class Completion = refl
default_for-class CurrentCompletion = refl

-- the default of a class and its patch are the changes for its name
pub patched-named : (rules : List StyleRule) (patches : List Patch) (attrs : Attrs) (class : Class) (name : List ℕ) → class_name class ≡ name → ArePatchesOf rules patches
    → patched (fold changed attrs (default_of class)) (get_or patches (place class) no_changes) ≡ fold changed attrs (changes_for rules name)
patched-named rules patches attrs class name named are =
    are class (fold changed attrs (default_of class))
    ∙ sym (fold-append changed attrs (default_of class) (rules_for rules (class_name class)))
    ∙ ap (λ default. fold changed attrs (default ++ rules_for rules (class_name class))) (sym (default_for-class class))
    ∙ ap (λ n. fold changed attrs (changes_for rules n)) named
