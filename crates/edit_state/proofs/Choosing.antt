-- When a choice changes nothing, and whether a first step from choice to choice can be made.
use Rattle.std.proofs.Common.{◌≡◌, ℕ, ◌<◌, Bool, true, false, List, Option, Some, None, slice_set, refl, sym, ap, ◌∙◌, arith}
use Rattle.std.specs.Prelude.{option_and_then, length}
use Rattle.std.proofs.lemmas.List.{set-get_or}
use Prim.Native.Nat.{zero, suc}
use Rattle.text_doc.specs.Document.{Document}
use Rattle.edit_buffer.specs.declared.menus.Menu.{Menu}
use Rattle.edit_buffer.specs.BufferState.{BufferState, IsBufferState, with_document}
use Rattle.edit_buffer.specs.Menus.{chosen_in}
use Rattle.edit_state.specs.MenuMoves.{choice_beside, is_too_long, can_step}

-- a choice that is the present one and gives the present document
pub same_choice : (b : BufferState) (menu : Option Menu) (which : Option ℕ) → IsBufferState b → b.menu ≡ menu → option_and_then (λ (m : Menu). m.chosen) menu ≡ which → (chosen_in menu b which).doc ≡ b.doc → chosen_in menu b which ≡ b
same_choice b None which is there here same = refl
same_choice b (Some m) which is there here same =
    let rebuilt : Document → Option ℕ → BufferState = λ d w. record (with_document b d) { menu = Some (record m { chosen = w }) } in
    let kept : slice_set b.lines b.index b.doc.text ≡ b.lines =
    ap (slice_set b.lines b.index) (sym is.present) ∙ set-get_or b.lines b.index _ in
    ap (λ d. rebuilt d which) same
    ∙ ap (rebuilt b.doc) (sym here)
    ∙ ap (λ (ls : List (List ℕ)). let new : BufferState = record b { lines = ls; menu = Some m } in new) kept
    ∙ ap (λ (o : Option Menu). let new : BufferState = record b { menu = o } in new) (sym there)

-- the first step leads to a text that is not too long
pub can_step-fits : (forward : Bool) (m : Menu) (steps : ℕ) (which : Option ℕ) → 0 < steps → is_too_long m (choice_beside forward (length m.items) which) ≡ false → can_step forward m steps which ≡ true
can_step-fits forward m zero which some fits = absurd (omega (arith, some))
can_step-fits forward m (suc steps) which some fits = rw fits refl

-- the first step leads to a text that is too long
pub can_step-stops : (forward : Bool) (m : Menu) (steps : ℕ) (which : Option ℕ) → is_too_long m (choice_beside forward (length m.items) which) ≡ true → can_step forward m steps which ≡ false
can_step-stops forward m zero which stops = refl
can_step-stops forward m (suc steps) which stops = rw stops refl

-- what is known of a first step
pub ruleset first_steps = (can_step-fits, can_step-stops)
