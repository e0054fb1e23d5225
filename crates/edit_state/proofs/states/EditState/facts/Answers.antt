-- Each fact was put where it holds, and no other call put it.
use Rattle.std.proofs.Common.{◌≡◌, Bool, true, false, ◌||◌, refl, ◌∙◌}
use Rattle.key_proc.specs.declared.facts.Fact.TheVariants.{Emacs, Insert, Navigation, Replace, Operator, Selection, Menu, Searching, Argument, Multiline, Suggestion, Empty}
use Rattle.edit_state.proofs.states.EditState.facts.Goals as goal

only_left : (left right : Bool) → right ≡ false → (left || right) ≡ left
only_left true right none = refl
only_left false right none = none

pub returns : goal.returns
returns c Selection =
    c.with_if.ensures Selection ∙ c.with_if-facts-6.ensures Selection ∙ c.with_if-facts-5.ensures Selection ∙ c.with_if-facts-4.ensures Selection ∙ c.with_if-facts-3.ensures Selection ∙ c.with_if-facts-2.ensures Selection ∙ c.with_if-facts.ensures Selection
    ∙ only_left _ _ (c.none.ensures Selection) ∙ c.holds.ensures
returns c Menu =
    c.with_if.ensures Menu ∙ c.with_if-facts-6.ensures Menu ∙ c.with_if-facts-5.ensures Menu ∙ c.with_if-facts-4.ensures Menu ∙ c.with_if-facts-3.ensures Menu ∙ c.with_if-facts-2.ensures Menu
    ∙ only_left _ _ (c.with_if-facts.ensures Menu ∙ c.none.ensures Menu) ∙ c.holds-2.ensures
returns c Searching =
    c.with_if.ensures Searching ∙ c.with_if-facts-6.ensures Searching ∙ c.with_if-facts-5.ensures Searching ∙ c.with_if-facts-4.ensures Searching ∙ c.with_if-facts-3.ensures Searching
    ∙ only_left _ _ (c.with_if-facts-2.ensures Searching ∙ c.with_if-facts.ensures Searching ∙ c.none.ensures Searching) ∙ c.holds-3.ensures
returns c Argument =
    c.with_if.ensures Argument ∙ c.with_if-facts-6.ensures Argument ∙ c.with_if-facts-5.ensures Argument ∙ c.with_if-facts-4.ensures Argument
    ∙ only_left _ _ (c.with_if-facts-3.ensures Argument ∙ c.with_if-facts-2.ensures Argument ∙ c.with_if-facts.ensures Argument ∙ c.none.ensures Argument) ∙ c.holds-4.ensures
returns c Multiline =
    c.with_if.ensures Multiline ∙ c.with_if-facts-6.ensures Multiline ∙ c.with_if-facts-5.ensures Multiline
    ∙ only_left _ _ (c.with_if-facts-4.ensures Multiline ∙ c.with_if-facts-3.ensures Multiline ∙ c.with_if-facts-2.ensures Multiline ∙ c.with_if-facts.ensures Multiline ∙ c.none.ensures Multiline) ∙ c.holds-5.ensures
returns c Suggestion =
    c.with_if.ensures Suggestion ∙ c.with_if-facts-6.ensures Suggestion
    ∙ only_left _ _ (c.with_if-facts-5.ensures Suggestion ∙ c.with_if-facts-4.ensures Suggestion ∙ c.with_if-facts-3.ensures Suggestion ∙ c.with_if-facts-2.ensures Suggestion ∙ c.with_if-facts.ensures Suggestion ∙ c.none.ensures Suggestion) ∙ c.holds-6.ensures
returns c Empty =
    c.with_if.ensures Empty
    ∙ only_left _ _ (c.with_if-facts-6.ensures Empty ∙ c.with_if-facts-5.ensures Empty ∙ c.with_if-facts-4.ensures Empty ∙ c.with_if-facts-3.ensures Empty ∙ c.with_if-facts-2.ensures Empty ∙ c.with_if-facts.ensures Empty ∙ c.none.ensures Empty) ∙ c.holds-7.ensures
returns c Emacs =
    c.with_if.ensures Emacs ∙ c.with_if-facts-6.ensures Emacs ∙ c.with_if-facts-5.ensures Emacs ∙ c.with_if-facts-4.ensures Emacs ∙ c.with_if-facts-3.ensures Emacs ∙ c.with_if-facts-2.ensures Emacs ∙ c.with_if-facts.ensures Emacs ∙ c.none.ensures Emacs
returns c Insert =
    c.with_if.ensures Insert ∙ c.with_if-facts-6.ensures Insert ∙ c.with_if-facts-5.ensures Insert ∙ c.with_if-facts-4.ensures Insert ∙ c.with_if-facts-3.ensures Insert ∙ c.with_if-facts-2.ensures Insert ∙ c.with_if-facts.ensures Insert ∙ c.none.ensures Insert
returns c Navigation =
    c.with_if.ensures Navigation ∙ c.with_if-facts-6.ensures Navigation ∙ c.with_if-facts-5.ensures Navigation ∙ c.with_if-facts-4.ensures Navigation ∙ c.with_if-facts-3.ensures Navigation ∙ c.with_if-facts-2.ensures Navigation ∙ c.with_if-facts.ensures Navigation ∙ c.none.ensures Navigation
returns c Replace =
    c.with_if.ensures Replace ∙ c.with_if-facts-6.ensures Replace ∙ c.with_if-facts-5.ensures Replace ∙ c.with_if-facts-4.ensures Replace ∙ c.with_if-facts-3.ensures Replace ∙ c.with_if-facts-2.ensures Replace ∙ c.with_if-facts.ensures Replace ∙ c.none.ensures Replace
returns c Operator =
    c.with_if.ensures Operator ∙ c.with_if-facts-6.ensures Operator ∙ c.with_if-facts-5.ensures Operator ∙ c.with_if-facts-4.ensures Operator ∙ c.with_if-facts-3.ensures Operator ∙ c.with_if-facts-2.ensures Operator ∙ c.with_if-facts.ensures Operator ∙ c.none.ensures Operator
